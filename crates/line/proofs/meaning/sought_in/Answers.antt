-- `sought_in`: one module alone bears the label, and the index part names a row of it.
use Rattle.std.proofs.Common.{rules}
use Rattle.line.specs.Meaning.Reading.{sought_rules}
use Rattle.line.proofs.meaning.sought_in.Goals as goal

pub returns-in_err-bearer : goal.returns-in_err-bearer
returns-in_err-bearer c = search (sought_rules, rules)

pub indexed-requires : goal.indexed-requires
indexed-requires c = search (sought_rules, rules)

pub returns : goal.returns
returns c = search (sought_rules, rules)
