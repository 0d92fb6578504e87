-- Rules for the code that answers read after read.
use Rattle.std.specs.Prelude.{◌≡◌, refl, Bool, true, false, List, [], ◌++◌, ℕ, ◌+◌, ◌*◌, ◌≤◌, ℤ, length, take, Ok, Err, is_err}
use Rattle.std.specs.declared.result.Result.{Result}
use Rattle.std.proofs.lemmas.Bool.{false≢true}
use Rattle.std.proofs.Common.{sym, ◌∙◌, arith, length-append, length-take-le}
use Rattle.room.specs.Table.{sound}
use Rattle.values.specs.Room.{Room}
use Rattle.values.specs.Values.{values_sound}
use Rattle.serial_port.specs.Port.{view}
use Rattle.serial_port.specs.Stream.{flow}
use Rattle.serial_port.specs.Stream.Flow.{nothing_values, nothing_seen, on_values, on_seen}
use Rattle.serial_port.specs.Stream.Kept.{flow-right}
use Rattle.serial_port.specs.declared.port.Port.{Port}
use Rattle.port.specs.Input.{Answers, answers, AnswersRead, nothing, something, bytes_of, AnswersAll, answers_all}
use Rattle.port.specs.declared.bytes.Answered.{Answered}
use Rattle.port.specs.declared.standard_input.Ended.{Ended}
use Rattle.port.specs.declared.standard_input.Ended.TheVariants.{Nothing}
use Rattle.port.specs.declared.standard_input.Turn.{Turn}

-- a read whose replies were written is none of which nothing came
nothing_written : {c : Result ℕ Ended} {n : ℕ} → c ≡ Err Nothing → c ≡ Ok n → ⊥
nothing_written e w = cc

-- nor is it a last one
ended_written : {c : Result ℕ Ended} {n : ℕ} → is_err c ≡ true → c ≡ Ok n → ⊥
ended_written e w = false≢true (rw w at e)

-- bs were fed to the port p and the values vs, and left vs' and q
pub record Fed (r : Room) (vs : List ℤ) (p : Port) (bs : List ℕ) (vs' : List ℤ) (q : Port) : Type 0 where
  pub values : vs' ≡ (flow r vs p bs).state
  pub right : values_sound r vs' ≡ true
  pub seen : view q ≡ (flow r vs p bs).port
  pub few : q.len ≤ 64

-- the bytes of one more read
fed_more : (r : Room) (vs : List ℤ) (p : Port) (bs : List ℕ) (vs' : List ℤ) (q : Port) (more out : List ℕ) (a : Answered) (vs'' : List ℤ)
    (out' : List ℕ) → sound r.table ≡ true → Fed r vs p bs vs' q → Answers r vs' q more out a vs'' out' → Fed r vs p (bs ++ more) vs'' a.port
fed_more r vs p bs vs' q more out a vs'' out' s f (answers replies room values seen few) =
    record {
      values = values ∙ sym (on_values r vs p bs vs' q f.values f.seen more);
      right = rw values (flow-right r vs' s f.right q f.few more);
      seen = seen ∙ sym (on_seen r vs p bs vs' q f.values f.seen more);
      few = few;
    }

-- in so many turns bytes were answered, one or more in each; and the buffers are as long as they were
pub record Reads (r : Room) (vs : List ℤ) (p : Port) (input out : List ℕ) (vs' : List ℤ) (input' out' : List ℕ) (q : Port) (turns : ℕ) : Type 0 where
  pub sounds : sound r.table ≡ true
  pub bytes : List ℕ
  pub fed : Fed r vs p bytes vs' q
  pub turned : turns ≤ length bytes
  pub size : length vs' ≡ length vs
  pub input-long : length input' ≡ length input
  pub out_long : length out' ≡ length out
  pub room : 64 * length input ≤ length out

module _ (r : Room) (vs : List ℤ) (p : Port) (input out : List ℕ) where
  pub reads_start : sound r.table ≡ true → values_sound r vs ≡ true → p.len ≤ 64 → 64 * length input ≤ length out
      → Reads r vs p input out vs input out p 0
  reads_start s g k h =
      record {
        sounds = s;
        bytes = [];
        fed = record { values = sym (nothing_values r vs p); right = g; seen = sym (nothing_seen r vs p); few = k };
        turned = omega arith;
        size = refl;
        input-long = refl;
        out_long = refl;
        room = h;
      }

  module _ (vs' : List ℤ) (input' out' : List ℕ) (q : Port) (turns : ℕ) (h : Reads r vs p input out vs' input' out' q turns) where
    pub reads_right : values_sound r vs' ≡ true
    reads_right = h.fed.right

    pub reads_few : q.len ≤ 64
    reads_few = h.fed.few

    pub reads_room : 64 * length input' ≤ length out'
    reads_room = omega (arith, h.input-long, h.out_long, h.room)

    -- ---- one more read
    module _ (g : Turn) (vs'' : List ℤ) (input'' out'' : List ℕ) (a : AnswersRead r vs' q input'' out' g vs'' out'') where
      -- the bytes that came of it, and all together
      abbrev came : List ℕ
      came = take (bytes_of g.came) input''

      abbrev more : List ℕ
      more = h.bytes ++ came

      more-fed : (sent : ℕ) → Answers r vs' q came out' (record { port = g.port; sent = sent }) vs'' out'' → Fed r vs p more vs'' g.port
      more-fed sent b = fed_more r vs p h.bytes vs' q came out' (record { port = g.port; sent = sent }) vs'' out'' h.sounds h.fed b

      longer : 1 ≤ bytes_of g.came → bytes_of g.came ≤ length input'' → length h.bytes + 1 ≤ length more
      longer some within = simp length-append (omega (arith, length-take-le (bytes_of g.came) input'' within))

      pub reads_next : (b : Bool) → b ≡ is_err g.came → b ≡ false → length vs'' ≡ length vs'
          → length input'' ≡ length input' → length out'' ≡ length out' → Reads r vs p input out vs'' input'' out'' g.port (turns + 1)
      reads_next b d e i j k = go a
        where
          go : AnswersRead r vs' q input'' out' g vs'' out'' → Reads r vs p input out vs'' input'' out'' g.port (turns + 1)
          go (nothing none port values replies) = absurd (false≢true (sym e ∙ d ∙ rw none refl))
          go (something sent some within b) =
              record {
                sounds = h.sounds;
                bytes = more;
                fed = more-fed sent b;
                turned = omega (arith, longer some within, h.turned);
                size = i ∙ h.size;
                input-long = j ∙ h.input-long;
                out_long = k ∙ h.out_long;
                room = h.room;
              }

      -- the last read
      ended : ((n : ℕ) → g.came ≡ Ok n → 18446744073709551615 ≤ length h.bytes) → AnswersAll r vs p g vs''
      ended e = go a
        where
          go : AnswersRead r vs' q input'' out' g vs'' out'' → AnswersAll r vs p g vs''
          go (nothing none port values replies) =
              let f = h.fed in
              let never : (n : ℕ) → g.came ≡ Ok n → 18446744073709551616 ≤ length h.bytes = λ n w. absurd (nothing_written none w) in
              answers_all h.bytes (values ∙ f.values) (rw values f.right) (rw port f.seen) (rw port f.few) never
          go (something sent some within b) =
              let f = more-fed sent b in
              answers_all more f.values f.right f.seen f.few (λ n w. omega (arith, longer some within, e n w))

      pub reads_ended : (b : Bool) → b ≡ is_err g.came → b ≡ true → AnswersAll r vs p g vs''
      reads_ended b d e = ended (λ n w. absurd (ended_written (sym d ∙ e) w))

      pub reads_turned : 18446744073709551615 ≤ turns → AnswersAll r vs p g vs''
      reads_turned z = ended (λ n w. omega (arith, h.turned))

pub ruleset reads = (reads_start, reads_right, reads_few, reads_room, reads_next, reads_ended, reads_turned)
