-- The line layer keeps the promise in a room with a sound table.
use Rattle.std.specs.Prelude.{◌≡◌, Bool, List, ℕ, ◌+◌, ◌≤◌, ℤ, pos, get_or}
use Rattle.std.proofs.Math.Path.{refl}
use Rattle.std.proofs.Common.{◌∙◌, ap, arith}
use Rattle.std.proofs.Math.Bool.{true, false}
use Rattle.std.proofs.Math.ListN.{length}
use Rattle.text.specs.Cut.Lacking.{has-not}
use Rattle.catalogue.specs.Row.{permitted}
use Rattle.catalogue.specs.declared.groups.Part.TheVariants.{Whole}
use Rattle.catalogue.specs.declared.row.Kind.{Kind}
use Rattle.catalogue.specs.declared.row.Kind.TheVariants.{Level, Switch, Number, Word}
use Rattle.room.specs.Table.{sound}
use Rattle.values.specs.Parameters.{place}
use Rattle.values.specs.Room.{Room, row_in}
use Rattle.values.specs.Room.Laws.{row_in-permits}
use Rattle.values.specs.Settable.{Settable}
use Rattle.values.specs.declared.parameter.Parameter.{Parameter}
use Rattle.syntax.specs.Shape.{line_limit}
use Rattle.line.specs.Meaning.{meaning}
use Rattle.line.specs.Answer.Laws as line
use Rattle.line.specs.Answer.Laws.{put_puttable}
use Rattle.spelling.specs.Line.{line_for}
use Rattle.spelling.specs.Say.{say}
use Rattle.spelling.specs.Say.Laws.{said-whole, say-line}
use Rattle.line.specs.Meaning.Outputs.{word-bits, word-natural}
use Rattle.line.specs.Said.Laws.{say-puttable, said-answer}
use Rattle.line.specs.Said.Naming.{reached, reached_sized}
use Rattle.line.specs.Said.Price.{Costs, by_whole, by_output, put_costs}
use Rattle.serial_port.specs.Play.Laws.{Right}
use Rattle.restore.proofs.Laws.Demand.Lines.Routes.{IsWord, route_fewest}
use Rattle.line.specs.declared.meaning.Meaning.TheVariants.{Put}
use Rattle.restore.specs.Demand.Lines.{price, Effect, nothing, puts, Said, Lines}
use Rattle.values.specs.Values.{equal}
use Rattle.values.specs.Values.Laws.{equal-true, value_permitted}

-- ---- what is no routing word: every line says it whole

module _ (t : List ℕ) (p : Parameter) (plain : p.row.kind ≡ Word → ⊥) where
  said : (v x : ℤ) → length (say t p v x) ≡ length (line_for 0x53 t p Whole x)
  said v x = ap length (say-line t p v x ∙ ap (λ u. line_for 0x53 t p u x) (said-whole p.row.kind v x plain))

  whole-costs : (target v x : ℤ) (l : List ℕ) → Costs t p v x l → price t p target v ≤ length l + 1 + price t p target x
  unfolding price
  whole-costs target v x l (by_output o b k some most small e h) = absurd (plain k)
  whole-costs target v x l (by_whole h) = go (equal v target) (equal x target) refl refl
    where
      go : (a b : Bool) → equal v target ≡ a → equal x target ≡ b → price t p target v ≤ length l + 1 + price t p target x
      go true b d e = rw d (omega arith)
      go false true d e =
          let f : length (line_for 0x53 t p Whole target) ≤ length l = rw (equal-true x target e) at h in
          rw (d, e) (omega (arith, said v target))
      go false false d e = rw (d, e) (omega (arith, said v target, said x target))

-- ---- in a room

module _ (r : Room) (is-sound : sound r.table ≡ true) where
  -- a permitted value of a routing word's parameter
  is_word_lem : (p : Parameter) (v : ℤ) → Settable r.table p → permitted (row_in r p) v ≡ true → p.row.kind ≡ Word → IsWord v
  is_word_lem p v s g k =
      let n = reached r.table (place p) p is-sound s.listed s.only in
      let h = row_in-permits r p v g in
      record { natural = word-natural v k (reached_sized r.table p n v h); small = word-bits p v n.known n.own h k }

  -- no line spares more than its bytes and its 0D
  costs : (vs : List ℤ) (l : List ℕ) (p : Parameter) (x : ℤ) → meaning r vs l ≡ Put p x → Right r vs → (target : ℤ) → permitted (row_in r p) target ≡ true
      → price r.table p target (get_or vs (place p) (pos 0)) ≤ length l + 1 + price r.table p target x
  costs vs l p x m right target g = go p.row.kind refl
    where
      reach : Settable r.table p
      reach = (put_puttable r vs l p x is-sound m).reached

      cost : Costs r.table p (get_or vs (place p) (pos 0)) x l
      cost = put_costs r vs l p x is-sound m

      go : (k : Kind) → p.row.kind ≡ k → price r.table p target (get_or vs (place p) (pos 0)) ≤ length l + 1 + price r.table p target x
      go Level e = whole-costs r.table p (λ w. let z : ◌≡◌ {A = ℕ} 0 1 = cc in omega arith) target (get_or vs (place p) (pos 0)) x l cost
      go Switch e = whole-costs r.table p (λ w. let z : ◌≡◌ {A = ℕ} 0 1 = cc in omega arith) target (get_or vs (place p) (pos 0)) x l cost
      go Number e = whole-costs r.table p (λ w. let z : ◌≡◌ {A = ℕ} 0 1 = cc in omega arith) target (get_or vs (place p) (pos 0)) x l cost
      go Word e =
          let n = reached r.table (place p) p is-sound reach.listed reach.only in
          route_fewest r.table p n.known n.own e target (get_or vs (place p) (pos 0)) x l
          (is_word_lem p target reach g e)
          (is_word_lem p (get_or vs (place p) (pos 0)) reach (value_permitted r vs (place p) p right reach.listed) e)
          (is_word_lem p x reach (put_puttable r vs l p x is-sound m).permits e) cost

  effects : (vs : List ℤ) (l : List ℕ) → Effect r vs l
  effects vs l = go (line.effect r vs l is-sound)
    where
      go : line.Effect r vs l → Effect r vs l
      go (line.malformed k n m e) = nothing (ap (λ a. a.values) e)
      go (line.refused n m e) = nothing (ap (λ a. a.values) e)
      go (line.told p u m g h e) = nothing (ap (λ a. a.values) e)
      go (line.put p x m g h e) = puts p x (put_puttable r vs l p x is-sound m).reached (ap (λ a. a.values) e) (costs vs l p x m)

  saying : (p : Parameter) (v x : ℤ) → Settable r.table p → permitted (row_in r p) v ≡ true → permitted (row_in r p) x ≡ true → Said r p v x (say r.table p v x)
  unfolding line_limit
  saying p v x h f g =
      let l = say r.table p v x in
      let said = say-puttable r p v x is-sound f (record { reached = h; permits = g }) in
      record { bytes = said.bytes; whole = has-not 0x0D l said.whole; fits = omega (arith, said.short); answered = λ vs e. said-answer r vs p v x l said e }

  pub promise : Lines r
  promise = record { effect = effects; says = saying }
