-- A part that a parameter has: an output is one of 32, and its parameter's value a word of as many bits.
use Rattle.std.specs.Prelude.{◌≡◌, refl, true, ℕ, ◌<◌, ◌^◌, ℤ, pos, nat_abs, Some}
use Rattle.std.proofs.Common.{sym, ◌∙◌, ap, arith}
use Rattle.catalogue.specs.Catalogue.{known_layout}
use Rattle.catalogue.specs.Catalogue.Sized.{Sized, permitted-sized}
use Rattle.catalogue.specs.Catalogue.Sized as sized
use Rattle.catalogue.specs.Groups.{PartIn}
use Rattle.catalogue.specs.Mixer.{route_row}
use Rattle.catalogue.specs.Mixer.Permitted.{WordOf, permitted-word}
use Rattle.catalogue.specs.Row.{permitted}
use Rattle.catalogue.specs.declared.groups.Part.{Part}
use Rattle.catalogue.specs.declared.groups.Part.TheVariants.{Output}
use Rattle.catalogue.specs.declared.row.Kind.{Kind}
use Rattle.catalogue.specs.declared.row.Kind.TheVariants.{Word}
use Rattle.values.specs.Control.Laws.{PartOf, all, output}
use Rattle.values.specs.Parameters.{parameters_of, parameter_at}
use Rattle.values.specs.Parameters.Named.{row_sized, word-routed}
use Rattle.values.specs.declared.parameter.Parameter.{Parameter}
use Rattle.syntax.specs.Value.{OutputIn}

-- a word has 32 bits
pub word_small : (v : ℤ) {k : Kind} → k ≡ Word → Sized k v → nat_abs v < 2 ^ 32
word_small v e (sized.level w h) = absurd (let z : ◌≡◌ {A = ℕ} 0 1 = cc in omega arith)
word_small v e sized.off = absurd (let z : ◌≡◌ {A = ℕ} 0 1 = cc in omega arith)
word_small v e sized.on = absurd (let z : ◌≡◌ {A = ℕ} 0 1 = cc in omega arith)
word_small v e (sized.number n h) = absurd (let z : ◌≡◌ {A = ℕ} 0 1 = cc in omega arith)
word_small v e (sized.word n h) = h

-- and is not negative
pub word-natural : (v : ℤ) {k : Kind} → k ≡ Word → Sized k v → pos (nat_abs v) ≡ v
word-natural v e (sized.level w h) = absurd (let z : ◌≡◌ {A = ℕ} 0 1 = cc in omega arith)
word-natural v e sized.off = absurd (let z : ◌≡◌ {A = ℕ} 0 1 = cc in omega arith)
word-natural v e sized.on = absurd (let z : ◌≡◌ {A = ℕ} 0 1 = cc in omega arith)
word-natural v e (sized.number n h) = absurd (let z : ◌≡◌ {A = ℕ} 0 1 = cc in omega arith)
word-natural v e (sized.word n h) = refl

-- the value of a parameter that its row permits
pub word-bits : (p : Parameter) (v : ℤ) → known_layout p.owner.layout ≡ true → parameter_at (parameters_of p.owner) p.number ≡ Some p → permitted p.row v ≡ true
    → p.row.kind ≡ Word → nat_abs v < 2 ^ 32
word-bits p v known own h k = word_small v k (permitted-sized p.row v (row_sized p.owner p.number p known own) h)

-- it has no output above its module's
pub word_of : (p : Parameter) (v : ℤ) → known_layout p.owner.layout ≡ true → parameter_at (parameters_of p.owner) p.number ≡ Some p → permitted p.row v ≡ true
    → p.row.kind ≡ Word → WordOf p.owner.layout.outputs (nat_abs v)
word_of p v known own h k =
    let r = word-routed p.owner p.number p known own k in
    let n = p.owner.layout.outputs in
    let e = word-natural v k (permitted-sized p.row v (row_sized p.owner p.number p known own) h) in
    permitted-word n r.input (nat_abs v) r.most
    (ap (permitted (route_row n r.input)) e ∙ ap (λ row. permitted row v) (sym r.is) ∙ h)

pub part_in : (p : Parameter) (u : Part) → known_layout p.owner.layout ≡ true → parameter_at (parameters_of p.owner) p.number ≡ Some p → PartOf p u → PartIn u
part_in p u known own all =
    record {
      some = λ o e. absurd (let z : ◌≡◌ {A = ℕ} 0 1 = cc in omega arith);
      most = λ o e. absurd (let z : ◌≡◌ {A = ℕ} 0 1 = cc in omega arith);
    }
part_in p u known own (output o k some most) =
    let r = word-routed p.owner p.number p known own k in
    record {
      some = λ q e. let f : o ≡ q = cc in omega arith;
      most = λ q e. let f : o ≡ q = cc in omega (arith, r.most);
    }

pub output_in : (p : Parameter) (u : Part) (v : ℤ) → known_layout p.owner.layout ≡ true → parameter_at (parameters_of p.owner) p.number ≡ Some p → PartOf p u
    → permitted p.row v ≡ true → OutputIn u v
output_in p u v known own h g = record { one = part_in p u known own h; word = go h }
  where
    go : {u : Part} → PartOf p u → (o : ℕ) → u ≡ Output o → nat_abs v < 2 ^ 32
    go all o e = absurd (let z : ◌≡◌ {A = ℕ} 0 1 = cc in omega arith)
    go (output q k some most) o e = word-bits p v known own g k
