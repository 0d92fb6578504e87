-- The number of each cause, as rules for code that tells them.
use Rattle.std.specs.Prelude.{◌≡◌}
use Rattle.syntax.specs.Cause.{cause_number}
use Rattle.syntax.specs.declared.cause.Cause.{Cause}
use Rattle.syntax.specs.declared.cause.Cause.TheVariants.{Overrun, NoVerb, NoOpeningQuote, NoClosingQuote, NoEquals}

module _ (c : Cause) where
  pub overrun_number : c ≡ Overrun → 1 ≡ cause_number c
  unfolding cause_number
  overrun_number h = rw h

  pub no_verb_number : c ≡ NoVerb → 2 ≡ cause_number c
  unfolding cause_number
  no_verb_number h = rw h

  pub no_opening_number : c ≡ NoOpeningQuote → 3 ≡ cause_number c
  unfolding cause_number
  no_opening_number h = rw h

  pub no_closing_number : c ≡ NoClosingQuote → 4 ≡ cause_number c
  unfolding cause_number
  no_closing_number h = rw h

  pub no_equals_number : c ≡ NoEquals → 5 ≡ cause_number c
  unfolding cause_number
  no_equals_number h = rw h

pub ruleset cause_numbers = (overrun_number, no_verb_number, no_opening_number, no_closing_number, no_equals_number)
