-- `set_line`: what is named is put, and else a code.
use borrow.Author.Rules.{rules}
use Rattle.std.proofs.Common.{rules}
use Rattle.line.specs.Meaning.Reading.{set_rules}
use Rattle.line.proofs.meaning.set_line.Goals as goal

pub put_meaning-requires : goal.put_meaning-requires
put_meaning-requires c = search (set_rules, rules)

pub returns-in-Some : goal.returns-in-Some
returns-in-Some c = search (set_rules, rules)

pub returns-in-None : goal.returns-in-None
returns-in-None c = search (set_rules, rules)
