-- Rules for the code that answers a line, by what the line means.
use Rattle.std.specs.Prelude.{◌≡◌, true, List, ℕ, ◌+◌, ◌<◌, ◌≤◌, ℤ, pos, length, get_or, set, Result, Ok, Err, Option, Some, None}
use Rattle.room.specs.declared.table.Module.{Module}
use Rattle.std.proofs.Math.Path.{sym}
use Rattle.std.proofs.Common.{◌∙◌, ap, subst, arith, lit<, to_z-of_z, SFits}
use Rattle.std.specs.Int.{w64}
use Rattle.text.specs.Written.{Wrote}
use Rattle.catalogue.specs.Row.Laws.{bits}
use Rattle.catalogue.specs.Groups.{PartIn}
use Rattle.catalogue.specs.declared.groups.Part.{Part}
use Rattle.room.specs.Label.Laws.{bearer-found}
use Rattle.values.specs.Parameters.{place}
use Rattle.values.specs.Parameters.First.{place_is}
use Rattle.room.specs.Table.{sound}
use Rattle.values.specs.Room.{Room, room_of}
use Rattle.values.specs.Values.{values_sound}
use Rattle.values.specs.Values.Laws.{value_inside}
use Rattle.values.specs.declared.parameter.Parameter.{Parameter}
use Rattle.syntax.specs.Shape.{shape}
use Rattle.syntax.specs.declared.cause.Cause.{Cause}
use Rattle.syntax.specs.declared.cause.Malformed as syntax
use Rattle.syntax.specs.declared.shape.Shape.{Shape}
use Rattle.syntax.specs.declared.shape.Shape.TheVariants as shape
use Rattle.line.specs.Answer.{Answers, answers, act}
use Rattle.line.specs.Answer.Laws.{answered, gets_place, puts-place}
use Rattle.line.specs.Answer.Replies.{gets_label, gets_part}
use Rattle.line.specs.Meaning.{Target, target, code, get_of, in_module, in_room, indexed, meaning, of_shape, put_of, set_of, bearer_of}
use Rattle.line.specs.Meaning.Laws.{get_told, put_told}
use Rattle.line.specs.Meaning.Bearing.{bearer-seated}
use Rattle.line.specs.Said.Naming.{reached}
use Rattle.line.specs.Told.Laws.{reply_held}
use Rattle.spelling.specs.Reply.{get_reply}
use Rattle.spelling.specs.Acknowledgement.{ack, nak}
use Rattle.line.specs.declared.meaning.Meaning.{Meaning}
use Rattle.line.specs.declared.meaning.Meaning.TheVariants.{Malformed, Code, Get, Put}
use Rattle.catalogue.specs.declared.groups.Groups.{Groups}

-- ---- telling and setting one parameter

-- the values hold the parameter's value, its module's record lies in the table, an output is one of 32, and the reply is short whatever value it tells
pub record Tellable (t : List ℕ) (vs : List ℤ) (p : Parameter) (u : Part) : Type 0 where
  pub within : p.owner.first + p.number < length vs
  pub room : p.owner.place + 33 ≤ length t
  pub one : PartIn u
  pub short : (v : ℤ) → SFits w64 v → length (get_reply t p u v) ≤ 64

-- the reply is as short with another parameter's value, and that has a place too, so that one told for the other is refused for its bytes
pub tell-room : (t : List ℕ) (vs : List ℤ) (p : Parameter) (u : Part) (buffer : List ℕ) (k : ℕ) → Tellable t vs p u → 64 ≤ length buffer → SFits w64 (get_or vs k (pos 0))
    → length (get_reply t p u (bits (get_or vs k (pos 0)))) ≤ length buffer
tell-room t vs p u buffer k h l f = rw (to_z-of_z f) (omega (arith, h.short (get_or vs k (pos 0)) f))

pub number-within : (t : List ℕ) (vs : List ℤ) (p : Parameter) (u : Part) → Tellable t vs p u → p.number < length vs
number-within t vs p u h = omega (arith, h.within)

pub told-value : (t : List ℕ) (vs : List ℤ) (p : Parameter) (u : Part) (buffer : List ℕ) (r : ℕ) (buffer' : List ℕ) → SFits w64 (get_or vs (p.owner.first + p.number) (pos 0))
    → Wrote buffer 0 (get_reply t p u (bits (get_or vs (p.owner.first + p.number) (pos 0)))) r buffer'
    → Wrote buffer 0 (get_reply t p u (get_or vs (place p) (pos 0))) r buffer'
told-value t vs p u buffer r buffer' f w = rw (place_is p) (rw (to_z-of_z f) at w)

pub tell-part : (t : List ℕ) (vs : List ℤ) (p : Parameter) (u : Part) → Tellable t vs p u → PartIn u
tell-part t vs p u h = h.one

pub ruleset telling = (tell-room, number-within, told-value, tell-part)

pub set_value : (vs : List ℤ) (p : Parameter) (x : ℤ) → SFits w64 x → set vs (p.owner.first + p.number) (bits x) ≡ set vs (place p) x
set_value vs p x f = rw (place_is p) (ap (set vs (p.owner.first + p.number)) (to_z-of_z f))

pub ruleset putting = (set_value)

-- ---- a line, by its meaning

-- codes other than 99 are at most 3
abbrev Small : Meaning → Type 0
Small (Malformed k n) = Unit {0}
Small (Code n) = n < 4
Small (Get p u) = Unit {0}
Small (Put p x) = Unit {0}

abbrev SmallTarget : Target → Type 0
SmallTarget (target p u) = Unit {0}
SmallTarget (code n) = n < 4

in_module_lem : (f : Option (Parameter × Part)) → SmallTarget (in_module f)
unfolding in_module
in_module_lem (Some (p, u)) = tt
in_module_lem None = lit< tt

in_room_lem : (b : Option Module) (i : Option Groups) → SmallTarget (in_room b i)
unfolding in_room
in_room_lem None i = lit< tt
in_room_lem (Some m) i = in_module_lem (indexed m i)

small_get : (g : Target) → SmallTarget g → Small (get_of g)
unfolding get_of
small_get (target p u) h = tt
small_get (code n) h = h

small_put : (p : Parameter) (v : Option ℤ) → Small (put_of p v)
unfolding put_of
small_put p (Some x) = tt
small_put p None = lit< tt

small_set : (r : Room) (vs : List ℤ) (text : List ℕ) (g : Target) → SmallTarget g → Small (set_of r vs text g)
unfolding set_of
small_set r vs text (target p u) h = small_put p _
small_set r vs text (code n) h = h

small_shape : (r : Room) (vs : List ℤ) (line : List ℕ) (b : Option Module) (s : Result Shape syntax.Malformed) → Small (of_shape r vs line b s)
unfolding of_shape
small_shape r vs line b (Err m) = tt
small_shape r vs line b (Ok (shape.Get o c)) = small_get _ (in_room_lem b _)
small_shape r vs line b (Ok (shape.Set o c e)) = small_set r vs _ _ (in_room_lem b _)

pub code_few : (r : Room) (vs : List ℤ) (line : List ℕ) (n : ℕ) → meaning r vs line ≡ Code n → n < 4
unfolding meaning
code_few r vs line n e = subst Small e (small_shape r vs line (bearer_of r.table line (shape line)) (shape line))

module _ (r : Room) (vs : List ℤ) (line : List ℕ) (b : Option Module) (f : Result Shape syntax.Malformed) (l : f ≡ shape line) (k : b ≡ bearer_of r.table line f) (m : Meaning) (d : m ≡ of_shape r vs line b f) where
  e : m ≡ meaning r vs line
  unfolding meaning
  e = rw (← l, ← k) d

  pub code_below : (n : ℕ) → m ≡ Code n → n < 100
  code_below n h = omega (arith, code_few r vs line n (sym e ∙ h))

  gets_tellable : (p : Parameter) (u : Part) → m ≡ Get p u → sound r.table ≡ true → values_sound r vs ≡ true → Tellable r.table vs p u
  gets_tellable p u h s v =
      let told = sym e ∙ h in
      let g = get_told r vs line p u told in
      let own = gets_place r.table line p u s g in
      let only = gets_label r.table line p u s g in
      let one = gets_part r.table line p u s g in
      record {
        within = rw (place_is p) at (value_inside r vs (place p) p v own);
        room = (bearer-found r.table _ p.owner s only).room;
        one = one;
        short = λ x f. reply_held r.table p u x (reached r.table (place p) p s own only) one f;
      }

  pub put_within : (p : Parameter) (x : ℤ) → m ≡ Put p x → sound r.table ≡ true → values_sound r vs ≡ true → p.owner.first + p.number < length vs
  put_within p x h s v = rw (place_is p) at (value_inside r vs (place p) p v (puts-place r vs line p x s (put_told r vs line p x (sym e ∙ h))))

  module _ (buffer : List ℕ) (sent : ℕ) (buffer' : List ℕ) where
    pub answers_malformed : (k : Cause) (n : ℕ) → m ≡ Malformed k n → Wrote buffer 0 (nak 99) sent buffer'
        → Answers r vs line buffer (record { sent = sent; fault = Some (record { cause = k; place = n }) }) vs buffer'
    unfolding act
    answers_malformed k n h w =
        let a = answered r vs line (Malformed k n) (sym e ∙ h) in
        answers (rw a w) (sym (ap (λ b. b.fault) a)) (sym (ap (λ b. b.values) a))

    pub answers_code : (n : ℕ) → m ≡ Code n → Wrote buffer 0 (nak n) sent buffer' → Answers r vs line buffer (record { sent = sent; fault = None }) vs buffer'
    unfolding act
    answers_code n h w =
        let a = answered r vs line (Code n) (sym e ∙ h) in
        answers (rw a w) (sym (ap (λ b. b.fault) a)) (sym (ap (λ b. b.values) a))

    pub answers_get : (p : Parameter) (u : Part) → m ≡ Get p u → Wrote buffer 0 (get_reply r.table p u (get_or vs (place p) (pos 0))) sent buffer'
        → Answers r vs line buffer (record { sent = sent; fault = None }) vs buffer'
    unfolding act
    answers_get p u h w =
        let a = answered r vs line (Get p u) (sym e ∙ h) in
        answers (rw a w) (sym (ap (λ b. b.fault) a)) (sym (ap (λ b. b.values) a))

    pub answers_put : (p : Parameter) (x : ℤ) (vs' : List ℤ) → m ≡ Put p x → Wrote buffer 0 ack sent buffer' → vs' ≡ set vs (place p) x
        → Answers r vs line buffer (record { sent = sent; fault = None }) vs' buffer'
    unfolding act
    answers_put p x vs' h w k =
        let a = answered r vs line (Put p x) (sym e ∙ h) in
        answers (rw a w) (sym (ap (λ b. b.fault) a)) (k ∙ sym (ap (λ b. b.values) a))

pub get_tellable : (t : List ℕ) (vs : List ℤ) (line : List ℕ) (b : Option Module) (f : Result Shape syntax.Malformed) (m : Meaning) (p : Parameter) (u : Part) → f ≡ shape line → b ≡ bearer_of t line f
    → m ≡ of_shape (room_of t) vs line b f → m ≡ Get p u → sound t ≡ true → values_sound (room_of t) vs ≡ true → Tellable t vs p u
get_tellable t vs line b f m p u l k d h s v = gets_tellable (room_of t) vs line b f l k m d p u h s v

pub ruleset answering = (bearer-seated, code_below, get_tellable, put_within, answers_malformed, answers_code, answers_get, answers_put)
