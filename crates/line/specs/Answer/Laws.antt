-- What a line does: a code and a get change no value, a put sets one parameter's value to what the line says; permitted values stay permitted.
use Rattle.std.specs.Prelude.{◌≡◌, refl, true, List, ℕ, ◌+◌, ℤ, pos, length, get_or, set, None, Some}
use Rattle.std.proofs.Common.{sym, ◌∙◌, ap}
use Rattle.catalogue.specs.declared.groups.Part.{Part}
use Rattle.values.specs.Parameters.{parameters, parameter_at, place}
use Rattle.room.specs.Table.{sound}
use Rattle.values.specs.Room.{Room}
use Rattle.values.specs.Room.Laws.{row_in-settable}
use Rattle.values.specs.Settable.{Puttable}
use Rattle.values.specs.Values.{values_sound}
use Rattle.values.specs.Values.Laws.{set_sound}
use Rattle.values.specs.declared.parameter.Parameter.{Parameter}
use Rattle.text.specs.Cut.{part}
use Rattle.syntax.specs.declared.cause.Cause.{Cause}
use Rattle.line.specs.Meaning.{meaning}
use Rattle.line.specs.Meaning.Laws.{Puts, Gets, names_place, names_label, put_told, get_told}
use Rattle.spelling.specs.Reply.{get_reply}
use Rattle.spelling.specs.Acknowledgement.{ack, nak}
use Rattle.text.specs.Written.{Wrote}
use Rattle.line.specs.Answer.{Answer, Answers, answers, act, answer}
use Rattle.line.specs.declared.meaning.Meaning.{Meaning}
use Rattle.line.specs.declared.meaning.Meaning.TheVariants.{Malformed, Code, Get, Put}
use Rattle.line.specs.declared.answer.Answered.{Answered}

-- ---- the three parts of the promise

module _ {r : Room} {vs : List ℤ} {line buffer : List ℕ} {a : Answered} {vs' : List ℤ} {buffer' : List ℕ} where
  pub reply_by : Answers r vs line buffer a vs' buffer' → Wrote buffer 0 (answer r vs line).reply a.sent buffer'
  reply_by (answers reply fault values) = reply

  pub fault_by : Answers r vs line buffer a vs' buffer' → a.fault ≡ (answer r vs line).fault
  fault_by (answers reply fault values) = fault

  pub values_by : Answers r vs line buffer a vs' buffer' → vs' ≡ (answer r vs line).values
  values_by (answers reply fault values) = values

-- what a line may do
pub data Effect (r : Room) (vs : List ℤ) (line : List ℕ) : Type 0 where
  -- answered with 99 for a cause that shows at a place, and the values are as before
  malformed : (k : Cause) (n : ℕ) → meaning r vs line ≡ Malformed k n → answer r vs line ≡ record { reply = nak 99; values = vs; fault = Some (record { cause = k; place = n }) } → Effect r vs line
  -- answered with another code, and the values are as before
  refused : (n : ℕ) → meaning r vs line ≡ Code n → answer r vs line ≡ record { reply = nak n; values = vs; fault = None } → Effect r vs line
  -- answered with the value of the part named, and the values are as before
  told : (p : Parameter) (u : Part) → meaning r vs line ≡ Get p u → Gets r.table line p u → parameter_at (parameters r.table) (place p) ≡ Some p
      → answer r vs line ≡ record { reply = get_reply r.table p u (get_or vs (place p) (pos 0)); values = vs; fault = None } → Effect r vs line
  -- acknowledged, and the value of the parameter named is the one that the text says, which the room permits
  put : (p : Parameter) (x : ℤ) → meaning r vs line ≡ Put p x → Puts r vs line p x → parameter_at (parameters r.table) (place p) ≡ Some p
      → answer r vs line ≡ record { reply = ack; values = set vs (place p) x; fault = None } → Effect r vs line

pub puts-place : (r : Room) (vs : List ℤ) (line : List ℕ) (p : Parameter) (x : ℤ) → sound r.table ≡ true → Puts r vs line p x
    → parameter_at (parameters r.table) (place p) ≡ Some p
puts-place r vs line p x s h = names_place r.table (part line (h.quote + 1) h.close) (part line (h.close + 1) h.equal) p h.control s h.names

pub gets_place : (t line : List ℕ) (p : Parameter) (u : Part) → sound t ≡ true → Gets t line p u → parameter_at (parameters t) (place p) ≡ Some p
gets_place t line p u s h = names_place t (part line (h.quote + 1) h.close) (part line (h.close + 1) (length line)) p u s h.names

pub put_puttable : (r : Room) (vs : List ℤ) (line : List ℕ) (p : Parameter) (x : ℤ) → sound r.table ≡ true → meaning r vs line ≡ Put p x → Puttable r p x
put_puttable r vs line p x s e =
    let h = put_told r vs line p x e in
    record {
      reached =
          record {
            listed = puts-place r vs line p x s h;
            settable = sym (row_in-settable r p) ∙ h.valued.settable;
            only = names_label r.table (part line (h.quote + 1) h.close) (part line (h.close + 1) h.equal) p h.control s h.names;
          };
      permits = h.valued.permits;
    }

pub answered : (r : Room) (vs : List ℤ) (line : List ℕ) (m : Meaning) → meaning r vs line ≡ m → answer r vs line ≡ act r.table vs m
unfolding answer
answered r vs line m e = ap (act r.table vs) e

pub effect : (r : Room) (vs : List ℤ) (line : List ℕ) → sound r.table ≡ true → Effect r vs line
unfolding act
effect r vs line s = go (meaning r vs line) refl
  where
    go : (m : Meaning) → meaning r vs line ≡ m → Effect r vs line
    go (Malformed k n) e = malformed k n e (answered r vs line (Malformed k n) e)
    go (Code n) e = refused n e (answered r vs line (Code n) e)
    go (Get p u) e = let g = get_told r vs line p u e in told p u e g (gets_place r.table line p u s g) (answered r vs line (Get p u) e)
    go (Put p x) e = let g = put_told r vs line p x e in put p x e g (puts-place r vs line p x s g) (answered r vs line (Put p x) e)

-- permitted values stay permitted
pub values_stay_sound : (r : Room) (vs : List ℤ) (line : List ℕ) → sound r.table ≡ true → values_sound r vs ≡ true
    → values_sound r (answer r vs line).values ≡ true
values_stay_sound r vs line s h = go (effect r vs line s)
  where
    after : (a : Answer) → answer r vs line ≡ a → values_sound r a.values ≡ true → values_sound r (answer r vs line).values ≡ true
    after a e v = ap (λ b. values_sound r b.values) e ∙ v

    go : Effect r vs line → values_sound r (answer r vs line).values ≡ true
    go (malformed k n m e) = after (record { reply = nak 99; values = vs; fault = Some (record { cause = k; place = n }) }) e h
    go (refused n m e) = after (record { reply = nak n; values = vs; fault = None }) e h
    go (told p u m g l e) = after (record { reply = get_reply r.table p u (get_or vs (place p) (pos 0)); values = vs; fault = None }) e h
    go (put p x m g l e) = after (record { reply = ack; values = set vs (place p) x; fault = None }) e (set_sound r vs (place p) p x l g.valued.permits h)
