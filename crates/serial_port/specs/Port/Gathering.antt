-- Rules for the code that gathers bytes: without an 0D all are joined to the held line, else those before the first.
use Rattle.std.specs.Prelude.{◌≡◌, refl, true, false, List, ℕ, ◌+◌, ◌≤◌, ◌<◌, length}
use Rattle.std.proofs.Common.{sym, ◌∙◌, arith, Fits}
use Rattle.std.proofs.Math.Numerals.{add-one}
use Rattle.std.proofs.Math.ListN.{take}
use Rattle.std.proofs.Math.Seq.{take-length}
use Rattle.std.specs.Int.{w64}
use Rattle.text.specs.Cut.{index_of, has, before}
use Rattle.text.specs.Cut.Found.{before-take, has-found}
use Rattle.text.specs.Cut.Lacking.{has-not}
use Rattle.text.specs.Cut.Laws.{index_within}
use Rattle.text.specs.Cut.Part.{part-counts}
use Rattle.syntax.specs.Shape.{line_limit}
use Rattle.serial_port.specs.Port.{view, gather, gathered, Gathers, gathers}
use Rattle.serial_port.specs.Port.Collecting.{Collects, seen_by, few_by}
use Rattle.serial_port.specs.declared.port.Port.{Port}
use Rattle.serial_port.specs.declared.port.Gathered.{Gathered}

-- ---- the two parts of the promise

module _ {p : Port} {bs : List ℕ} {g : Gathered} where
  pub gathered-by : Gathers p bs g → gathered g ≡ gather (view p) bs
  gathered-by (gathers all few) = all

  pub gathered-few : Gathers p bs g → g.port.len ≤ line_limit
  gathered-few (gathers all few) = few

-- ---- the two ways to return

module _ (bs : List ℕ) (end : ℕ) (e : end ≡ index_of 0x0D bs) where
  pub line_within : end ≤ length bs
  line_within = omega (arith, index_within 0x0D bs)

  pub end_fits : (end ≡ length bs → ⊥) → length bs < 18446744073709551616 → Fits w64 (end + 1)
  end_fits h k = record { fits = omega (arith, line_within) }

  line_before : take end bs ≡ before 0x0D bs
  line_before = rw (e, before-take 0x0D bs) refl

  has-none : end ≡ length bs → has 0x0D bs ≡ false
  has-none h = has-not 0x0D bs (sym e ∙ h)

  has_one : (end ≡ length bs → ⊥) → has 0x0D bs ≡ true
  has_one h = has-found 0x0D bs (index_of 0x0D bs) refl (omega (arith, line_within))

  module _ (p q : Port) (c : Collects p (take end bs) q) where
    pub gathers_waiting : end ≡ length bs → Gathers p bs (record { port = q; consumed = end; finished = false })
    unfolding gather gathered
    gathers_waiting w =
        let all : take end bs ≡ bs = rw (w, take-length) in
        gathers (rw (has-none w, rw all at (seen_by c), w) refl) (few_by c)

    pub gathers_finished : (end ≡ length bs → ⊥) → Gathers p bs (record { port = q; consumed = end + 1; finished = true })
    unfolding gather gathered
    gathers_finished w = gathers (rw (has_one w, rw line_before at (seen_by c), add-one end, e) refl) (few_by c)

pub ruleset gathering = (part-counts, line_within, end_fits, gathers_waiting, gathers_finished)
