-- What a text says by its kind, and when.
use Rattle.std.specs.Prelude.{◌≡◌, List, ℤ, ◌-ℤ◌, ℕ, Option, Some, None}
use Rattle.std.proofs.Math.Path.{refl}
use Rattle.std.proofs.Math.IntN.{pos}
use Rattle.text.specs.Level.{read_level}
use Rattle.text.specs.Number.{read_number}
use Rattle.text.specs.Switch.{read_switch}
use Rattle.text.specs.Word.{read_hex}
use Rattle.text.specs.declared.switch.Switch.{Switch}
use Rattle.text.specs.declared.switch.Switch.TheVariants as switches
use Rattle.catalogue.specs.declared.row.Kind.{Kind}
use Rattle.catalogue.specs.declared.row.Kind.TheVariants as kinds
use Rattle.syntax.specs.Value.{of_level, of_number, of_switch, of_word, read_kind}
use Rattle.syntax.specs.Value.Laws.{wrong_value}

-- a level, a number, a word, or a switch, which may be the present value turned over
pub data Says (present : ℤ) (s : List ℕ) : Kind → ℤ → Type 0 where
  level : (v : ℤ) → read_level s ≡ Some v → Says present s kinds.Level v
  number : (n : ℕ) → read_number 5 s ≡ Some n → Says present s kinds.Number (pos n)
  word : (w : ℕ) → read_hex s ≡ Some w → Says present s kinds.Word (pos w)
  on : read_switch s ≡ Some switches.On → Says present s kinds.Switch (pos 1)
  off : read_switch s ≡ Some switches.Off → Says present s kinds.Switch (pos 0)
  turned : read_switch s ≡ Some switches.Turn → Says present s kinds.Switch (pos 1 -ℤ present)

module _ (present x : ℤ) (s : List ℕ) where
  level-told : (l : Option ℤ) → read_level s ≡ l → of_level l ≡ Some x → Says present s kinds.Level x
  unfolding of_level
  level-told (Some v) e h = let q : v ≡ x = cc in rw (← q) (level v e)
  level-told None e h = wrong_value x h

  number-told : (m : Option ℕ) → read_number 5 s ≡ m → of_number m ≡ Some x → Says present s kinds.Number x
  unfolding of_number
  number-told (Some n) e h = let q : pos n ≡ x = cc in rw (← q) (number n e)
  number-told None e h = wrong_value x h

  word-told : (m : Option ℕ) → read_hex s ≡ m → of_word m ≡ Some x → Says present s kinds.Word x
  unfolding of_word
  word-told (Some w) e h = let q : pos w ≡ x = cc in rw (← q) (word w e)
  word-told None e h = wrong_value x h

  switch-told : (w : Option Switch) → read_switch s ≡ w → of_switch present w ≡ Some x → Says present s kinds.Switch x
  unfolding of_switch
  switch-told (Some switches.On) e h = let q : pos 1 ≡ x = cc in rw (← q) (on e)
  switch-told (Some switches.Off) e h = let q : pos 0 ≡ x = cc in rw (← q) (off e)
  switch-told (Some switches.Turn) e h = let q : pos 1 -ℤ present ≡ x = cc in rw (← q) (turned e)
  switch-told None e h = wrong_value x h

  pub kind-told : (k : Kind) → read_kind k present s ≡ Some x → Says present s k x
  unfolding read_kind
  kind-told kinds.Level h = level-told (read_level s) refl h
  kind-told kinds.Switch h = switch-told (read_switch s) refl h
  kind-told kinds.Number h = number-told (read_number 5 s) refl h
  kind-told kinds.Word h = word-told (read_hex s) refl h

pub kind-said : (present x : ℤ) (s : List ℕ) (k : Kind) → Says present s k x → read_kind k present s ≡ Some x
unfolding read_kind of_level of_number of_switch of_word
kind-said present x s k (level v e) = rw e
kind-said present x s k (number n e) = rw e
kind-said present x s k (word w e) = rw e
kind-said present x s k (on e) = rw e
kind-said present x s k (off e) = rw e
kind-said present x s k (turned e) = rw e
