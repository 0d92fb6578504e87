use borrow.Author.Rules.{rules}
use Rattle.text.specs.Level.Reading.{byte_rules}
use Rattle.text.proofs.level.read_byte.Goals as goal

pub returns-in-Start : goal.returns-in-Start
returns-in-Start c = search (byte_rules, rules)

pub returns-in-Sign : goal.returns-in-Sign
returns-in-Sign c = search (byte_rules, rules)

pub returns-in-Digit : goal.returns-in-Digit
returns-in-Digit c = search (byte_rules, rules)

pub returns-in-Digits : goal.returns-in-Digits
returns-in-Digits c = search (byte_rules, rules)

pub returns-in-Point : goal.returns-in-Point
returns-in-Point c = search (byte_rules, rules)

pub returns-in-Tenth : goal.returns-in-Tenth
returns-in-Tenth c = search (byte_rules, rules)
