-- The bearer of a line's label: rules for the code that looks it up, and what it hands on.
use Rattle.std.specs.Prelude.{◌≡◌, true, List, ℕ, ◌+◌, ◌-◌, ℤ, take, drop, Result, Ok, Err, Option, None, Some}
use Rattle.room.specs.declared.table.Module.{Module}
use Rattle.std.proofs.Common.{sym, ◌∙◌, arith}
use Rattle.catalogue.specs.declared.groups.Part.{Part}
use Rattle.room.specs.Label.{bearer}
use Rattle.room.specs.Label.Laws.{bearer-found}
use Rattle.values.specs.Parameters.{parameter_at, parameters}
use Rattle.values.specs.Parameters.Each.{parameter_fits}
use Rattle.values.specs.Parameters.First.{place_is}
use Rattle.room.specs.Table.{sound}
use Rattle.values.specs.Room.{Room}
use Rattle.values.specs.Room.Laws.{row_in-fits, row_in-permits}
use Rattle.values.specs.Values.{values_sound}
use Rattle.values.specs.Values.Laws.{value_inside, value_permitted}
use Rattle.values.specs.declared.parameter.Parameter.{Parameter}
use Rattle.text.specs.Cut.{part}
use Rattle.text.specs.Cut.Part.{part-is}
use Rattle.syntax.specs.IndexPart.{read_indices}
use Rattle.line.specs.Meaning.{target, code, in_room, bearer_of}
use Rattle.line.specs.Meaning.Laws.{names_told, names_place, names_known, names_own, names_has}
use Rattle.line.specs.Meaning.Outputs.{output_in}
use Rattle.line.specs.Meaning.Reading.{Holds, Seated, places}
use Rattle.syntax.specs.declared.cause.Malformed as syntax
use Rattle.syntax.specs.declared.shape.Shape.{Shape}
use Rattle.syntax.specs.declared.shape.Shape.TheVariants as shape

module _ (t line : List ℕ) (s : Result Shape syntax.Malformed) where
  pub no_label : (m : syntax.Malformed) → s ≡ Err m → None ≡ bearer_of t line s
  unfolding bearer_of
  no_label m h = rw h

  pub get_borne : (o c : ℕ) (b : Option Module) → s ≡ Ok (shape.Get o c) → b ≡ bearer t (part line (o + 1) c) → b ≡ bearer_of t line s
  unfolding bearer_of
  get_borne o c b h g = g ∙ rw h

  pub set_borne : (o c q : ℕ) (b : Option Module) → s ≡ Ok (shape.Set o c q) → b ≡ bearer t (part line (o + 1) c) → b ≡ bearer_of t line s
  unfolding bearer_of
  set_borne o c q b h g = g ∙ rw h

pub quoted-borne : (t line : List ℕ) (o c : ℕ) (b : Option Module) → b ≡ bearer t (take (c - (o + 1)) (drop (o + 1) line)) → b ≡ bearer t (part line (o + 1) c)
quoted-borne t line o c b h = h ∙ rw (part-is line (o + 1) c)

pub ruleset bearer-rules = (quoted-borne, places, no_label, get_borne, set_borne)

-- what is named has its place in the values
named-held : (r : Room) (label s : List ℕ) (vs : List ℤ) (p : Parameter) (u : Part) → in_room (bearer r.table label) (read_indices s) ≡ target p u
    → sound r.table ≡ true → values_sound r vs ≡ true → Holds r vs p u
named-held r label s vs p u e sd vd =
    let t = r.table in
    let k = p.owner.first + p.number in
    let n = names_told t label s p u e in
    let at : parameter_at (parameters r.table) k ≡ Some p = rw (place_is p) at (names_place t label s p u sd n) in
    let permits = value_permitted r vs k p vd at in
    record {
      within = value_inside r vs k p vd at;
      fits = row_in-fits r p (parameter_fits t sd k p at);
      permits = permits;
      output = output_in p u _ (names_known t label s p u sd n) (names_own t label s p u sd n) (names_has t label s p u sd n) (row_in-permits r p _ permits);
    }

-- whatever bears a label of a sound table has its values in a sound list
pub bearer-seated : (r : Room) (line : List ℕ) (vs : List ℤ) (b : Option Module) (s : Result Shape syntax.Malformed) → b ≡ bearer_of r.table line s → sound r.table ≡ true → values_sound r vs ≡ true
    → Seated r vs b
unfolding bearer_of in_room
bearer-seated r line vs b s e sd vd = go s e
  where
    none : b ≡ None → Seated r vs b
    none h =
        record {
          known = λ m k. absurd (let z : ◌≡◌ {A = ℕ} 0 1 = cc in omega arith);
          holds = λ s p u k. absurd (let w : code 1 ≡ target p u = rw h at k in let z : ◌≡◌ {A = ℕ} 0 1 = cc in omega arith);
        }

    one : (text : List ℕ) → b ≡ bearer r.table text → Seated r vs b
    one text h =
        record {
          known = λ m k. (bearer-found r.table text m sd (sym h ∙ k)).known;
          holds = λ s p u k. named-held r text s vs p u (rw h at k) sd vd;
        }

    go : (s : Result Shape syntax.Malformed) → b ≡ bearer_of r.table line s → Seated r vs b
    go (Err m) h = none h
    go (Ok (shape.Get o c)) h = one (part line (o + 1) c) h
    go (Ok (shape.Set o c q)) h = one (part line (o + 1) c) h
