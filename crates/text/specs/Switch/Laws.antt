-- Laws of switch texts: how one is read, that one is a single byte, and that what is written is read back.
use Rattle.std.specs.Prelude.{◌≡◌, refl, List, [], ◌∷◌, ℕ, length, get_or, Some, None}
use Rattle.std.proofs.Common.{arith, ne_eqb}
use Rattle.text.specs.Switch.{switch_letter, read_switch, switch_text}
use Rattle.text.specs.declared.switch.Switch.TheVariants.{On, Off, Turn}

one_letter : (s : List ℕ) → length s ≡ 1 → read_switch s ≡ switch_letter (get_or s 0 0)
unfolding read_switch
one_letter [] h = absurd (omega arith)
one_letter (b ∷ []) h = refl
one_letter (b ∷ c ∷ s) h = absurd (omega arith)

pub no_letter : (s : List ℕ) → (length s ≡ 1 → ⊥) → None ≡ read_switch s
unfolding read_switch
no_letter [] h = refl
no_letter (b ∷ []) h = absurd (h refl)
no_letter (b ∷ c ∷ s) h = refl

-- ---- what each letter says

pub letter_on : (s : List ℕ) → length s ≡ 1 → get_or s 0 0 ≡ 79 → Some On ≡ read_switch s
unfolding switch_letter
letter_on s h e = rw (one_letter s h, e)

pub letter_off : (s : List ℕ) → length s ≡ 1 → get_or s 0 0 ≡ 70 → Some Off ≡ read_switch s
unfolding switch_letter
letter_off s h e = rw (one_letter s h, e)

pub letter_turn : (s : List ℕ) → length s ≡ 1 → get_or s 0 0 ≡ 84 → Some Turn ≡ read_switch s
unfolding switch_letter
letter_turn s h e = rw (one_letter s h, e)

pub letter_wrong : (s : List ℕ) → length s ≡ 1 → (get_or s 0 0 ≡ 79 → ⊥) → (get_or s 0 0 ≡ 70 → ⊥) → (get_or s 0 0 ≡ 84 → ⊥) → None ≡ read_switch s
unfolding switch_letter
letter_wrong s h on off turn = rw (one_letter s h, ne_eqb (get_or s 0 0) 79 on, ne_eqb (get_or s 0 0) 70 off, ne_eqb (get_or s 0 0) 84 turn)

pub ruleset letters = (no_letter, letter_on, letter_off, letter_turn, letter_wrong)

-- ---- what is written, and how long a text is

pub off_back : read_switch (switch_text 0) ≡ Some Off
unfolding read_switch switch_letter switch_text
off_back = refl

pub on_back : read_switch (switch_text 1) ≡ Some On
unfolding read_switch switch_letter switch_text
on_back = refl

pub switch-length : (n : ℕ) → length (switch_text n) ≡ 1
unfolding switch_text
switch-length n = refl

-- a text that says something is one byte
pub switch-one : (s : List ℕ) → (read_switch s ≡ None → ⊥) → length s ≡ 1
unfolding read_switch
switch-one [] h = absurd (h refl)
switch-one (b ∷ []) h = refl
switch-one (b ∷ c ∷ s) h = absurd (h refl)
