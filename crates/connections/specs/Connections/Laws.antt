-- What opening and closing leave.
use Rattle.std.specs.Prelude.{◌≡◌, refl, Bool, List, ℕ, zero, suc, ◌≤◌, length, get_or, set}
use Rattle.std.proofs.Common.{sym, ◌∙◌, ap, arith, get_or-set_same, get_or-set_other}
use Rattle.serial_port.specs.Play.Calls.{AsFresh}
use Rattle.connections.specs.Connections.{closed, port_at, open_at, switch_number, Left, refused, made, Switches, switches}
use Rattle.connections.specs.Connections.Number.{open_flag, switch-place}
use Rattle.connections.specs.declared.connection.Connection.{Connection}

-- what is told
pub told-by : {want : Bool} {row row' : List Connection} {i n : ℕ} → Switches want row i n row' → n ≡ switch_number want row i
told-by (switches told left) = told

-- the row that is left, by the number that is told
left_by : {want : Bool} {row row' : List Connection} {i n : ℕ} → Switches want row i n row' → Left want row i n row'
left_by (switches told left) = rw told left

-- accepted, the connection is open or closed as wanted, and its port counts as a fresh one
pub switched_anew : {want : Bool} {row row' : List Connection} {i : ℕ} → Switches want row i 0 row' → (open_at row' i ≡ want) × AsFresh (port_at row' i)
unfolding port_at
switched_anew {want} {row} {row'} {i} p = go row' 0 refl (switch-place want row i (sym (told-by p))) (left_by p)
  where
    go : (after : List Connection) (n : ℕ) → n ≡ 0 → (length row ≡ 32) × (i ≤ 31) → Left want row i n after → (open_at after i ≡ want) × AsFresh (get_or after i closed).port
    go after (suc n) e k (refused m) = absurd (omega arith)
    go after zero e k (made c a) =
        let there : get_or (set row i c) i closed ≡ c = get_or-set_same row i c closed (omega arith) in
        (open_flag (set row i c) i ∙ ap (λ (x : Connection). x.is_open) there ∙ a.switched, rw there a.port)

-- the others are as they were
pub others_as_were : {want : Bool} {row row' : List Connection} {i n : ℕ} → Switches want row i n row' → (j : ℕ) → (j ≡ i → ⊥) → get_or row' j closed ≡ get_or row j closed
others_as_were {want} {row} {row'} {i} {n} p j h = go (left_by p)
  where
    go : {m : ℕ} {after : List Connection} → Left want row i m after → get_or after j closed ≡ get_or row j closed
    go (refused m) = refl
    go (made c a) = get_or-set_other row i j c closed h

-- a refusal changes nothing
pub switch-refused : {want : Bool} {row row' : List Connection} {i n : ℕ} → Switches want row i (suc n) row' → row' ≡ row
switch-refused {want} {row} {row'} {i} {n} p = go (suc n) row' refl (left_by p)
  where
    go : (m : ℕ) (after : List Connection) → m ≡ suc n → Left want row i m after → after ≡ row
    go (suc m) after e (refused k) = refl
    go zero after e (made c a) = absurd (omega arith)
