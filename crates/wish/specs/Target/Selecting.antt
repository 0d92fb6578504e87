-- Rules for testing the selection, one module's byte after the other.
use Rattle.std.specs.Prelude.{◌≡◌, refl, Bool, true, false, ◌&&◌, List, ℕ, ◌+◌, ◌≤◌, ◌<◌, eqb, get_or, drop}
use Rattle.std.proofs.Math.Path.{sym}
use Rattle.std.proofs.Common.{◌∙◌, arith, eq-eqb, eqb-true, le-leb, ne_eqb, Fits}
use Rattle.std.proofs.Math.Bool.{and-false}
use Rattle.std.proofs.lemmas.Bool.{eqb-false, lt-leb}
use Rattle.std.proofs.Math.ListN.{length}
use Rattle.catalogue.specs.Catalogue.{known, rows_of}
use Rattle.text.specs.Every.{every}
use Rattle.text.specs.Every.Steps.{every-from, every-past}
use Rattle.room.specs.Table.{modules, sound}
use Rattle.record.specs.Body.{body_length}
use Rattle.record.specs.Layout.{layout_at}
use Rattle.room.specs.declared.table.Module.{Module}
use Rattle.room.specs.Table.Steps.{Step, at_module, at_next}
use Rattle.room.specs.Table.Walk.{Walk, place-fits, walk_counted, walk_few, walk_kind, walk_next, walk_numbered, walk_start}
use Rattle.std.specs.Int.{w64}
use Rattle.wish.specs.Target.{at_most_one, selection_right}

-- there is a byte for each record passed, and each of these is at most 1
pub record Selecting (t selection : List ℕ) (number place : ℕ) : Type 0 where
  pub first : ℕ
  pub walk : Walk t number place first
  pub within : number ≤ length selection
  pub rest : every at_most_one selection ≡ every at_most_one (drop number selection)

pub selecting_start : (t selection : List ℕ) → sound t ≡ true → Selecting t selection 0 0
selecting_start t selection e = record { first = 0; walk = walk_start t e; within = omega arith; rest = refl }

wrong_length : (t selection : List ℕ) → (length selection ≡ length (modules t) → ⊥) → selection_right t selection ≡ false
unfolding selection_right
wrong_length t selection h = rw (ne_eqb (length selection) (length (modules t)) h)

wrong_byte : (t selection : List ℕ) → every at_most_one selection ≡ false → selection_right t selection ≡ false
unfolding selection_right
wrong_byte t selection h = rw h (and-false (eqb (length selection) (length (modules t))))

module _ (t selection : List ℕ) (number place : ℕ) (s : Selecting t selection number place) (l : place < length t) where
  pub selecting_short : length selection ≤ number → false ≡ selection_right t selection
  selecting_short h = sym (wrong_length t selection (λ e. omega (arith, walk_numbered t number place s.first s.walk l)))

  at_byte : number < length selection → every at_most_one selection ≡ (at_most_one (get_or selection number 0) && every at_most_one (drop (number + 1) selection))
  at_byte h = s.rest ∙ every-from at_most_one selection 0 number h

  pub selecting_wrong : number < length selection → 1 < get_or selection number 0 → false ≡ selection_right t selection
  unfolding at_most_one
  selecting_wrong h b = sym (wrong_byte t selection (rw (lt-leb (get_or selection number 0) 1 b) at (at_byte h)))

  pub selecting_next : (size : ℕ) → size ≡ body_length (get_or t place 0) → number < length selection → get_or selection number 0 ≤ 1
      → Selecting t selection (number + 1) (place + 1 + size)
  unfolding at_most_one
  selecting_next size e h b =
      record {
        first = s.first + length (rows_of (layout_at t place));
        walk = walk_next t number place s.first s.walk l size (length (rows_of (layout_at t place))) e refl;
        within = omega arith;
        rest = rw (le-leb (get_or selection number 0) 1 b) at (at_byte h);
      }

  pub selecting_kind : known (get_or t place 0) ≡ true
  selecting_kind = walk_kind t number place s.first s.walk l

  pub selecting_number_fits : Fits w64 (number + 1)
  selecting_number_fits = record { fits = omega (arith, walk_few t number place s.first s.walk l) }

  pub selecting_place_fits : (size : ℕ) → size ≡ body_length (get_or t place 0) → length t < 18446744073709551616 → Fits w64 (place + 1 + size)
  selecting_place_fits size e b = place-fits t number place s.first s.walk l size e b

pub selecting_all : (t selection : List ℕ) (number place : ℕ) → Selecting t selection number place → length t ≤ place
    → eqb number (length selection) ≡ selection_right t selection
unfolding selection_right
selecting_all t selection number place s l = go (eqb number (length selection)) refl
  where
    many : length (modules t) ≡ number
    many = walk_counted t number place s.first s.walk l

    go : (b : Bool) → eqb number (length selection) ≡ b → eqb number (length selection) ≡ (eqb (length selection) (length (modules t)) && every at_most_one selection)
    go true e =
        let n : number ≡ length selection = eqb-true number (length selection) e in
        rw (e, eq-eqb (length selection) (length (modules t)) (omega (arith, many)), s.rest, every-past at_most_one selection number (omega arith))
    go false e = rw (e, ne_eqb (length selection) (length (modules t)) (λ f. eqb-false number (length selection) e (omega (arith, many))))

-- ---- the same by the module that the walk gives

pub selecting_begun : (t selection : List ℕ) (number place : ℕ) → sound t ≡ true → number ≡ 0 → place ≡ 0 → Selecting t selection number place
selecting_begun t selection number place s a b = rw (a, b) (selecting_start t selection s)

module _ (t selection : List ℕ) (number place first : ℕ) (m : Module) (next_number next_place next_first : ℕ)
    (st : Step t number place first m next_number next_place next_first) (s : Selecting t selection number place) where
  pub select_short : length selection ≤ m.number → false ≡ selection_right t selection
  select_short =
      at_module t number place first m next_number next_place next_first st (λ x. length selection ≤ x.number → false ≡ selection_right t selection)
      (selecting_short t selection number place s st.inside)

  pub select_wrong : m.number < length selection → 1 < get_or selection m.number 0 → false ≡ selection_right t selection
  select_wrong =
      at_module t number place first m next_number next_place next_first st
      (λ x. x.number < length selection → 1 < get_or selection x.number 0 → false ≡ selection_right t selection)
      (selecting_wrong t selection number place s st.inside)

  pub select_next : m.number < length selection → get_or selection m.number 0 ≤ 1 → Selecting t selection next_number next_place
  select_next =
      at_module t number place first m next_number next_place next_first st
      (λ x. x.number < length selection → get_or selection x.number 0 ≤ 1 → Selecting t selection next_number next_place)
      (λ l b.
      at_next t number place first m next_number next_place next_first st (λ n p f. Selecting t selection n p)
      (selecting_next t selection number place s st.inside (body_length (get_or t place 0)) refl l b))

  pub select_counted : m.number + 1 ≡ next_number
  select_counted = at_module t number place first m next_number next_place next_first st (λ x. x.number + 1 ≡ next_number) (sym st.number-next)

  pub select_fits : Fits w64 (m.number + 1)
  select_fits = at_module t number place first m next_number next_place next_first st (λ x. Fits w64 (x.number + 1)) (selecting_number_fits t selection number place s st.inside)

pub ruleset selecting =
    (selecting_begun, selecting_start, selecting_short, selecting_wrong, selecting_next, selecting_kind, selecting_number_fits, selecting_place_fits, selecting_all)
