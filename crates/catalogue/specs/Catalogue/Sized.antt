-- How large a row's indices and values are: small enough for their texts.
pub mod Groups
use Rattle.std.specs.Prelude.{◌≡◌, refl, Bool, true, false, ◌&&◌, ℕ, zero, suc, ◌%◌, ◌^◌, ◌≤◌, ◌<◌, eqb, ltb, ℤ, pos, negsuc, nat_abs, ◌-ℤ◌}
use Rattle.std.proofs.Common.{arith, eqb-true, leb-true, ltb-true}
use Rattle.std.specs.Int.Signed.{le_z}
use Rattle.text.specs.Every.Laws.{both_left, both_right, never}
use Rattle.text.specs.Every.{every}
use Rattle.catalogue.specs.Catalogue.{catalogue, level as level', minus, number as number', switch as switch'}
use Rattle.catalogue.specs.Catalogue.Each.{entry_test}
use Rattle.catalogue.specs.Row.{permitted}
use Rattle.catalogue.specs.declared.row.Indices.{Indices}
use Rattle.catalogue.specs.declared.row.Indices.TheVariants.{OneGroup, TwoGroups}
use Rattle.catalogue.specs.declared.row.Kind.{Kind}
use Rattle.catalogue.specs.declared.row.Kind.TheVariants.{Level, Switch, Number, Word}
use Rattle.catalogue.specs.declared.row.Row.{Row}

-- of two groups the first has one digit and the second at most two
unfoldable pub sized_indices : Indices → Bool
sized_indices (OneGroup a) = ltb a 1000
sized_indices (TwoGroups a b) = ltb a 10 && ltb b 100

-- levels are below 100 dB in size, a switch is 0 or 1, numbers have at most five digits and no sign, words 32 bits
unfoldable pub sized_bounds : Kind → ℤ → ℤ → Bool
sized_bounds Level low high = ltb (nat_abs low) 1000 && ltb (nat_abs high) 1000
sized_bounds Switch (pos low) (pos high) = eqb low 0 && eqb high 1
sized_bounds Switch (pos low) (negsuc high) = false
sized_bounds Switch (negsuc low) high = false
sized_bounds Number (pos low) (pos high) = ltb high 100000
sized_bounds Number (pos low) (negsuc high) = false
sized_bounds Number (negsuc low) high = false
sized_bounds Word (pos low) (pos high) = ltb high (2 ^ 32)
sized_bounds Word (pos low) (negsuc high) = false
sized_bounds Word (negsuc low) high = false

unfoldable pub sized_row : Row → Bool
sized_row r = sized_indices r.indices && sized_bounds r.kind r.low r.high

pub catalogue-sized : every (entry_test sized_row) catalogue ≡ true
unfolding every sized_row sized_indices sized_bounds catalogue level' switch' number' minus
catalogue-sized = refl

-- ---- the values that such a row permits

pub data Sized : Kind → ℤ → Type 0 where
  level : (x : ℤ) → nat_abs x < 1000 → Sized Level x
  off : Sized Switch (pos 0)
  on : Sized Switch (pos 1)
  number : (n : ℕ) → n < 100000 → Sized Number (pos n)
  word : (n : ℕ) → n < 2 ^ 32 → Sized Word (pos n)

between : (low x high : ℤ) → nat_abs low < 1000 → nat_abs high < 1000 → le_z low x ≡ true → le_z x high ≡ true → nat_abs x < 1000
between low (pos x) (pos high) l h p q = omega (arith, leb-true x high q)
between low (pos x) (negsuc high) l h p q = never q
between (pos low) (negsuc x) high l h p q = never p
between (negsuc low) (negsuc x) high l h p q = omega (arith, leb-true x low p)

switched : (n : ℕ) → n ≤ 1 → Sized Switch (pos n)
switched zero h = off
switched (suc zero) h = on
switched (suc (suc n)) h = absurd (omega arith)

sized : (k : Kind) (low x high : ℤ) → sized_bounds k low high ≡ true → le_z low x ≡ true → le_z x high ≡ true → Sized k x
unfolding sized_bounds
sized Level low x high b p q =
    level x (between low x high (ltb-true (nat_abs low) 1000 (both_left (ltb (nat_abs low) 1000) (ltb (nat_abs high) 1000) b))
    (ltb-true (nat_abs high) 1000 (both_right (ltb (nat_abs low) 1000) (ltb (nat_abs high) 1000) b)) p q)
sized Switch (pos low) (pos x) (pos high) b p q =
    switched x (omega (arith, eqb-true high 1 (both_right (eqb low 0) (eqb high 1) b), leb-true x high q))
sized Switch (pos low) (negsuc x) (pos high) b p q = never p
sized Switch (pos low) x (negsuc high) b p q = never b
sized Switch (negsuc low) x high b p q = never b
sized Number (pos low) (pos x) (pos high) b p q = number x (omega (arith, ltb-true high 100000 b, leb-true x high q))
sized Number (pos low) (negsuc x) (pos high) b p q = never p
sized Number (pos low) x (negsuc high) b p q = never b
sized Number (negsuc low) x high b p q = never b
sized Word (pos low) (pos x) (pos high) b p q = word x (omega (arith, ltb-true high (2 ^ 32) b, leb-true x high q))
sized Word (pos low) (negsuc x) (pos high) b p q = never p
sized Word (pos low) x (negsuc high) b p q = never b
sized Word (negsuc low) x high b p q = never b

pub permitted-sized : (r : Row) (x : ℤ) → sized_row r ≡ true → permitted r x ≡ true → Sized r.kind x
unfolding sized_row permitted
permitted-sized r x f p =
    let lows = le_z r.low x in
    let highs = le_z x r.high in
    let steps = eqb (nat_abs (x -ℤ r.low) % r.step) 0 in
    let both = both_left (lows && highs) steps p in
    sized r.kind r.low x r.high (both_right (sized_indices r.indices) (sized_bounds r.kind r.low r.high) f)
    (both_left lows highs both) (both_right lows highs both)
