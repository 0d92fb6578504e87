-- Rules for the code that reads a value text; a signed local is read back from its bits.
use Rattle.std.specs.Prelude.{◌≡◌, refl, Bool, true, List, ℕ, zero, suc, ◌+◌, ◌^◌, ◌<◌, ◌≤◌, ℤ, pos, negsuc, nat_abs, ◌-ℤ◌, Option, Some, None}
use Rattle.std.proofs.Math.Path.{sym, ap}
use Rattle.std.proofs.Common.{◌∙◌, arith, lt-ltb, SFits, to_z}
use Rattle.std.proofs.Math.Bool.{false, cond}
use Rattle.std.proofs.Math.Nat.{pow-le-pow_right}
use Rattle.std.proofs.lemmas.Bool.{not-true, not-false}
use Rattle.std.specs.Int.Signed.{mag}
use Rattle.std.proofs.Math.Facts.{to_z-of_z, to_z_pos}
use Rattle.std.specs.Int.{w64}
use Rattle.text.specs.Level.{read_level}
use Rattle.text.specs.Level.Laws.{level-below}
use Rattle.text.specs.Number.{read_number}
use Rattle.text.specs.Number.Laws.{number-below}
use Rattle.text.specs.Switch.{read_switch}
use Rattle.text.specs.Word.{read_hex}
use Rattle.text.specs.Word.Text.{word_below}
use Rattle.text.specs.declared.switch.Switch.{Switch}
use Rattle.text.specs.declared.switch.Switch.TheVariants as switch
use Rattle.catalogue.specs.Row.{permitted}
use Rattle.catalogue.specs.Row.{RowFits}
use Rattle.catalogue.specs.Row.Laws.{bits, value_bits}
use Rattle.catalogue.specs.Row.Near.{permitted-bits, permitted-near}
use Rattle.catalogue.specs.declared.groups.Part.{Part}
use Rattle.catalogue.specs.declared.groups.Part.TheVariants.{Whole, Output}
use Rattle.catalogue.specs.declared.row.Row.{Row}
use Rattle.catalogue.specs.declared.row.Kind.{Kind}
use Rattle.catalogue.specs.declared.row.Kind.TheVariants as kind
use Rattle.syntax.specs.Value.{OutputIn, of_level, of_number, of_switch, of_word, read_kind, read_output, read_part, only_permitted, read_value}
use Rattle.syntax.specs.Value.Laws.{value_back}
use Rattle.syntax.specs.Value.Crosspoint.{output_within}
use Rattle.syntax.specs.Value.Says as told
use Rattle.syntax.specs.Value.Says.{Says, kind-told}

-- ---- levels, numbers and words

small_fits : (v : ℤ) → nat_abs v < 1000 → SFits w64 v
small_fits (pos n) h = record { sfits = omega arith }
small_fits (negsuc n) h = record { sfits = omega arith }

level-fits : (s : List ℕ) (v : ℤ) → read_level s ≡ Some v → SFits w64 v
level-fits s v e = small_fits v (level-below s v e)

level_same : (l : Option ℤ) → of_level l ≡ l
unfolding of_level
level_same (Some v) = refl
level_same None = refl

pub number_fits : (width : ℕ) (s : List ℕ) (m : Option ℕ) (n : ℕ) → m ≡ read_number width s → m ≡ Some n → width ≤ 18 → SFits w64 (pos n)
number_fits width s m n e h l =
    let b = number-below width s n (sym e ∙ h) in
    let w : 10 ^ width ≤ 10 ^ 18 = pow-le-pow_right (omega arith) l in
    record { sfits = omega arith }

pub number-said : (s : List ℕ) (m : Option ℕ) (n : ℕ) → m ≡ read_number 5 s → m ≡ Some n → Some (to_z w64 n) ≡ of_number (read_number 5 s)
unfolding of_number
number-said s m n e h =
    let l : n < 10 ^ 5 = number-below 5 s n (sym e ∙ h) in
    let small : n < 2 ^ 63 = omega arith in
    rw (sym e ∙ h, to_z_pos w64 small)

pub number-wrong : (s : List ℕ) (m : Option ℕ) → m ≡ read_number 5 s → m ≡ None → None ≡ of_number (read_number 5 s)
unfolding of_number
number-wrong s m e h = rw (sym e ∙ h)

pub ruleset number-rules = (number_fits, number-said, number-wrong)

pub word_fits : (s : List ℕ) (m : Option ℕ) (w : ℕ) → m ≡ read_hex s → m ≡ Some w → SFits w64 (pos w)
word_fits s m w e h = record { sfits = omega (arith, word_below s w (sym e ∙ h)) }

pub word-said : (s : List ℕ) (m : Option ℕ) (w : ℕ) → m ≡ read_hex s → m ≡ Some w → Some (to_z w64 w) ≡ of_word (read_hex s)
unfolding of_word
word-said s m w e h =
    let small : w < 2 ^ 63 = omega (arith, word_below s w (sym e ∙ h)) in
    rw (sym e ∙ h, to_z_pos w64 small)

pub word-wrong : (s : List ℕ) (m : Option ℕ) → m ≡ read_hex s → m ≡ None → None ≡ of_word (read_hex s)
unfolding of_word
word-wrong s m e h = rw (sym e ∙ h)

pub ruleset word-rules = (word_fits, word-said, word-wrong)

-- ---- switches

turn_near : (x : ℤ) → mag (pos 1 -ℤ x) ≤ mag x + 2
turn_near (pos zero) = omega arith
turn_near (pos (suc zero)) = omega arith
turn_near (pos (suc (suc n))) = rw (lt-ltb 1 (suc (suc n)) (omega arith)) (omega arith)
turn_near (negsuc n) = omega arith

turn-fits : (x : ℤ) → mag x < 2 ^ 62 → SFits w64 (pos 1 -ℤ x)
turn-fits x h = record { sfits = omega (arith, turn_near x, h) }

module _ (present : ℤ) (near : mag present < 2 ^ 62) where
  pub turned-fits : SFits w64 (pos 1 -ℤ bits present)
  turned-fits = rw (value_bits present near) (turn-fits present near)

  module _ (s : List ℕ) (w : Option Switch) (e : w ≡ read_switch s) where
    pub switch-on : w ≡ Some switch.On → Some (pos 1) ≡ of_switch present (read_switch s)
    unfolding of_switch
    switch-on h = rw (sym e ∙ h)

    pub switch-off : w ≡ Some switch.Off → Some (pos 0) ≡ of_switch present (read_switch s)
    unfolding of_switch
    switch-off h = rw (sym e ∙ h)

    pub switch-turned : w ≡ Some switch.Turn → Some (bits (pos 1 -ℤ bits present)) ≡ of_switch present (read_switch s)
    unfolding of_switch
    switch-turned h = rw (sym e ∙ h, to_z-of_z turned-fits, value_bits present near)

    pub switch-wrong : w ≡ None → None ≡ of_switch present (read_switch s)
    unfolding of_switch
    switch-wrong h = rw (sym e ∙ h)

pub ruleset switch-rules = (turned-fits, switch-on, switch-off, switch-turned, switch-wrong)

-- ---- the kind

module _ (k : Kind) (present : ℤ) (s : List ℕ) (r : Option ℤ) where
  pub kind-level : k ≡ kind.Level → r ≡ read_level s → r ≡ read_kind k present s
  unfolding read_kind
  kind-level e h = h ∙ sym (level_same (read_level s)) ∙ rw e

  pub kind-switch : mag present < 2 ^ 62 → k ≡ kind.Switch → r ≡ of_switch (bits present) (read_switch s) → r ≡ read_kind k present s
  unfolding read_kind
  kind-switch near e h = h ∙ rw (e, value_bits present near)

  pub kind_number_lem : k ≡ kind.Number → r ≡ of_number (read_number 5 s) → r ≡ read_kind k present s
  unfolding read_kind
  kind_number_lem e h = h ∙ rw e

  pub kind-word : k ≡ kind.Word → r ≡ of_word (read_hex s) → r ≡ read_kind k present s
  unfolding read_kind
  kind-word e h = h ∙ rw e

pub still-near : (present : ℤ) → mag present < 2 ^ 62 → mag (bits present) < 2 ^ 62
still-near present near = rw (value_bits present near) near

pub ruleset kind-rules = (still-near, kind-level, kind-switch, kind_number_lem, kind-word)

-- ---- the part

-- what a kind's text says fits
kind-within : (k : Kind) (present v : ℤ) (s : List ℕ) → mag present < 2 ^ 62 → read_kind k present s ≡ Some v → SFits w64 v
kind-within k present v s near h = go (kind-told present v s k h)
  where
    go : {k : Kind} {v : ℤ} → Says present s k v → SFits w64 v
    go (told.level v e) = level-fits s v e
    go (told.number n e) = number_fits 5 s (Some n) n (sym e) refl (omega arith)
    go (told.word w e) = word_fits s (Some w) w (sym e) refl
    go (told.on e) = record { sfits = omega arith }
    go (told.off e) = record { sfits = omega arith }
    go (told.turned e) = turn-fits present near

part-within : (k : Kind) (part : Part) (present v : ℤ) (s : List ℕ) → mag present < 2 ^ 62 → OutputIn part present → read_part k part present s ≡ Some v → SFits w64 v
unfolding read_part
part-within k Whole present v s near u h = kind-within k present v s near h
part-within k (Output o) present v s near u h = output_within o present s v (u.one.some o refl) (u.word o refl) h

module _ (k : Kind) (part : Part) (present : ℤ) (s : List ℕ) (r : Option ℤ) where
  pub part-whole : mag present < 2 ^ 62 → part ≡ Whole → r ≡ read_kind k (bits present) s → r ≡ read_part k part present s
  unfolding read_part
  part-whole near e h = h ∙ rw (e, value_bits present near)

  pub part-output : (o : ℕ) → mag present < 2 ^ 62 → part ≡ Output o → r ≡ read_output o (bits present) s → r ≡ read_part k part present s
  unfolding read_part
  part-output o near e h = h ∙ rw (e, value_bits present near)

module _ (part : Part) (present : ℤ) (u : OutputIn part present) (o : ℕ) (e : part ≡ Output o) where
  pub output_some : 1 ≤ o
  output_some = u.one.some o e

  pub output_most : o ≤ 32
  output_most = u.one.most o e

  pub output_word : mag present < 2 ^ 62 → nat_abs (bits present) < 2 ^ 32
  output_word near = rw (value_bits present near) (u.word o e)

pub ruleset part-rules = (still-near, part-whole, part-output, output_some, output_most, output_word)

-- ---- the row

module _ (r : Row) (part : Part) (present : ℤ) (s : List ℕ) where
  pub not_settable : r.settable ≡ false → None ≡ read_value r part present s
  unfolding read_value
  not_settable e = rw e

  module _ (fit : RowFits r) (now : permitted r present ≡ true) (u : OutputIn part present) where
    pub present-near : mag (bits present) < 2 ^ 62
    present-near = still-near present (permitted-near r present fit now)

    pub present-output : OutputIn part (bits present)
    present-output = rw (permitted-bits r present fit now) u

    module _ (set : r.settable ≡ true) (w : Option ℤ) (e : w ≡ read_part r.kind part (bits present) s) where
      said : w ≡ read_part r.kind part present s
      said = rw (permitted-bits r present fit now) at e

      pub form_wrong : w ≡ None → None ≡ read_value r part present s
      unfolding read_value only_permitted
      form_wrong h = rw (set, ← said, h)

      module _ (v : ℤ) (h : w ≡ Some v) (t : Bool) (f : t ≡ permitted r (bits v)) where
        plain : bits v ≡ v
        plain = to_z-of_z (part-within r.kind part present v s (permitted-near r present fit now) u (sym said ∙ h))

        says : read_part r.kind part present s ≡ Some v
        says = sym said ∙ h

        pub value_put : t ≡ true → Some (bits v) ≡ read_value r part present s
        value_put y =
            let g : permitted r v ≡ true = rw plain at (sym f ∙ y) in
            rw plain (sym (value_back r part present s v (record { settable = set; says = says; permits = g })))

        pub value_refused : t ≡ false → None ≡ read_value r part present s
        unfolding read_value only_permitted
        value_refused y =
            let g : permitted r v ≡ false = rw plain at (sym f ∙ y) in
            sym
            (ap (λ b. cond b (only_permitted r (read_part r.kind part present s)) None) set
            ∙ ap (only_permitted r) says
            ∙ ap (λ b. cond b (Some v) None) g)

pub ruleset value_rules = (not-true, not-false, not_settable, present-near, present-output, form_wrong, value_put, value_refused)
