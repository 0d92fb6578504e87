-- What a value text that is put tells.
use Rattle.std.specs.Prelude.{◌≡◌, refl, Bool, true, false, cond, List, ℕ, ℤ, Option, Some, None}
use Rattle.std.proofs.Common.{sym, ◌∙◌, ap, arith}
use Rattle.catalogue.specs.Row.{permitted}
use Rattle.catalogue.specs.declared.groups.Part.{Part}
use Rattle.catalogue.specs.declared.row.Row.{Row}
use Rattle.syntax.specs.Value.{read_part, only_permitted, read_value}

pub wrong_value {ℓ} : {A : Type ℓ} (x : ℤ) → None ≡ Some x → A
wrong_value x h = absurd (let z : ◌≡◌ {A = ℕ} 0 1 = cc in omega arith)

-- the row may be set, the text says x in the form of the part, and x is permitted
pub record Valued (r : Row) (part : Part) (present : ℤ) (text : List ℕ) (x : ℤ) : Type 0 where
  pub settable : r.settable ≡ true
  pub says : read_part r.kind part present text ≡ Some x
  pub permits : permitted r x ≡ true

pub value_told : (r : Row) (part : Part) (present : ℤ) (text : List ℕ) (x : ℤ) → read_value r part present text ≡ Some x → Valued r part present text x
unfolding read_value only_permitted
value_told r part present text x h = go r.settable refl (read_part r.kind part present text) refl h
  where
    permits : (y : ℤ) (b : Bool) → permitted r y ≡ b → r.settable ≡ true → read_part r.kind part present text ≡ Some y
        → cond b (Some y) None ≡ Some x → Valued r part present text x
    permits y true e s q h =
        let z : y ≡ x = cc in
        record { settable = s; says = q ∙ h; permits = ap (permitted r) (sym z) ∙ e }
    permits y false e s q h = wrong_value x h

    go : (b : Bool) → r.settable ≡ b → (v : Option ℤ) → read_part r.kind part present text ≡ v → cond b (only_permitted r v) None ≡ Some x
        → Valued r part present text x
    go true s (Some y) q h = permits y (permitted r y) refl s q h
    go true s None q h = wrong_value x h
    go false s v q h = wrong_value x h

pub value_back : (r : Row) (part : Part) (present : ℤ) (text : List ℕ) (x : ℤ) → Valued r part present text x → read_value r part present text ≡ Some x
unfolding read_value only_permitted
value_back r part present text x h =
    ap (λ b. cond b (only_permitted r (read_part r.kind part present text)) None) h.settable ∙
    ap (only_permitted r) h.says ∙
    ap (λ b. cond b (Some x) None) h.permits
