-- Why a line is malformed: the number of each cause, in the order in which they are looked for.
pub mod Laws
use Rattle.std.specs.Prelude.{ℕ}
use Rattle.syntax.specs.declared.cause.Cause.{Cause}
use Rattle.syntax.specs.declared.cause.Cause.TheVariants.{Overrun, NoVerb, NoOpeningQuote, NoClosingQuote, NoEquals}
use Rattle.syntax.specs.declared.cause.Malformed.{Malformed}

unfoldable pub cause_number : Cause → ℕ
cause_number Overrun = 1
cause_number NoVerb = 2
cause_number NoOpeningQuote = 3
cause_number NoClosingQuote = 4
cause_number NoEquals = 5

-- a cause, and the byte where it shows
abbrev pub malformed : Cause → ℕ → Malformed
malformed c n = record { cause = c; place = n }
