-- Rules for the code that collects bytes: the longer held line, or an overrun.
use Rattle.std.specs.Prelude.{◌≡◌, true, false, List, ◌++◌, ℕ, ◌+◌, ◌-◌, ◌≤◌, ◌<◌, length, take, drop}
use Rattle.std.proofs.Math.Path.{refl}
use Rattle.std.proofs.Common.{sym, ◌∙◌, arith, length-append, take_at, length-take-le}
use Rattle.std.proofs.lemmas.List.Edits.{sets, sets-eq}
use Rattle.text.specs.Cut.Part.{part-counts}
use Rattle.text.specs.Written.{Wrote}
use Rattle.syntax.specs.Shape.{line_limit}
use Rattle.serial_port.specs.Port.{view, fit, join}
use Rattle.serial_port.specs.Port.Laws.{fit-short, fit-long}
use Rattle.serial_port.specs.declared.port.Port.{Port}
use Rattle.text.specs.Written.Laws.{past_by, bytes-by}

-- the port q after bs were joined to the line of p: the longer line, and a claim of at most 64 bytes
pub data Collects (p : Port) (bs : List ℕ) (q : Port) : Type 0 where
  collects : (seen : view q ≡ join (view p) bs) → (few : q.len ≤ line_limit) → Collects p bs q

module _ {p : Port} {bs : List ℕ} {q : Port} where
  pub seen_by : Collects p bs q → view q ≡ join (view p) bs
  seen_by (collects seen few) = seen

  pub few_by : Collects p bs q → q.len ≤ line_limit
  few_by (collects seen few) = few

module _ (p : Port) (bs : List ℕ) (few : p.len ≤ 64) where
  -- an overrun port reads on as overrun
  pub collects_over : p.overrun ≡ true → Collects p bs p
  unfolding view join line_limit
  collects_over o = collects (rw o refl) few

  module _ (o : p.overrun ≡ false) (long : length p.held ≡ 64) where
    joined : join (view p) bs ≡ fit (take p.len p.held ++ bs)
    unfolding view join
    joined = rw o refl

    size : length (take p.len p.held ++ bs) ≡ p.len + length bs
    size = rw (length-append, length-take-le p.len p.held (omega arith)) refl

    -- a 65th byte
    pub collects_overrun : 64 - p.len < length bs → Collects p bs (record { held = p.held; len = p.len; overrun = true })
    unfolding view line_limit
    collects_overrun h =
        collects (sym (joined ∙ fit-long (take p.len p.held ++ bs) (omega (arith, size)))) few

    whole : length bs ≤ 64 - p.len → take (p.len + length bs) (sets p.held p.len bs) ≡ take p.len p.held ++ bs
    whole h =
        rw (sets-eq bs p.held p.len (omega arith))
        (take_at (take p.len p.held ++ bs) (drop (p.len + length bs) p.held) (p.len + length bs) size)

    -- bytes for which there is room
    pub collects_bytes : (end : ℕ) (after : List ℕ) → length bs ≤ 64 - p.len → Wrote p.held p.len bs end after
        → Collects p bs (record { held = after; len = end; overrun = false })
    unfolding view line_limit
    collects_bytes end after h w =
        collects
        (rw (past_by w, bytes-by w, whole h) (sym (joined ∙ fit-short (take p.len p.held ++ bs) (omega (arith, size)))))
        (rw (past_by w) (omega arith))

-- ---- the array that holds the bytes

module _ (l : List ℕ) (n : ℕ) (few : n ≤ 64) (long : length l ≡ 64) where
  pub held-room : (bs : List ℕ) → length bs ≤ 64 - n → n + length bs ≤ length l
  held-room bs h = omega arith

  pub held-within : n ≤ length l
  held-within = omega arith

pub ruleset holding = (held-room, held-within, part-counts)

pub ruleset collecting = (collects_over, collects_overrun, collects_bytes)
