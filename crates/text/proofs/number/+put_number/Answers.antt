-- `put_number`: all digits but the last by the call, and then the last.
use Rattle.std.proofs.Common.{arith, rules}
use Rattle.text.specs.Digits.Writing.{number-writing, wrote_one}
use Rattle.text.proofs.number.+put_number.Goals as goal

pub put_byte-requires : goal.put_byte-requires
put_byte-requires t c = search (number-writing, rules)

pub returns-then-n-lt10 : goal.returns-then-n-lt10
returns-then-n-lt10 t c = wrote_one _ _ _ _ _ (omega arith) (search rules)

pub put_number-next-requires : goal.put_number-next-requires
put_number-next-requires t c = search (number-writing, rules)

pub put_byte-requires-2 : goal.put_byte-requires-2
put_byte-requires-2 t c = search (number-writing, rules)

pub returns : goal.returns
returns t c = search (number-writing, rules)
