-- Every row's step is below 2 ^ 32: one test over the table, and of a mixer's words the step is a bit of 32.
use Rattle.std.specs.Prelude.{◌≡◌, refl, Bool, true, ℕ, ◌-◌, ◌^◌, ◌<◌, ltb}
use Rattle.std.proofs.Common.{arith, lt-ltb}
use Rattle.std.proofs.Math.Pow.{pow-lt}
use Rattle.text.specs.Every.{every}
use Rattle.catalogue.specs.Catalogue.{catalogue, level, minus, number, switch}
use Rattle.catalogue.specs.Catalogue.Each.{entry_test}
use Rattle.catalogue.specs.Catalogue.Modules.{EveryRow}
use Rattle.catalogue.specs.Mixer.{MixerSize, fader, mixer_rows, mute, route_row}
use Rattle.catalogue.specs.Mixer.Right.{rows_tested}
use Rattle.catalogue.specs.declared.row.Row.{Row}

abbrev pub narrow : Row → Bool
narrow r = ltb r.step (2 ^ 32)

catalogue-narrow : every (entry_test narrow) catalogue ≡ true
unfolding every catalogue level switch number minus
catalogue-narrow = refl

mixer-narrow : (inputs outputs : ℕ) → MixerSize inputs outputs → every narrow (mixer_rows inputs outputs) ≡ true
unfolding fader mute route_row
mixer-narrow inputs outputs size = rows_tested narrow inputs outputs size (λ g j a b. refl) (λ g j a b. refl) word
  where
    word : (k : ℕ) → k < 32 → narrow (route_row outputs k) ≡ true
    word k h =
        let l : 2 ^ (32 - outputs) < 2 ^ 32 = pow-lt {j = 32} (omega (arith, size.some_outputs)) in
        lt-ltb (2 ^ (32 - outputs)) (2 ^ 32) l

pub all_narrow : EveryRow narrow
all_narrow = record { listed = catalogue-narrow; mixed = mixer-narrow }
