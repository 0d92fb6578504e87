-- How the set line is measured and written: a rule for each return and each call.
use Rattle.std.specs.Prelude.{◌≡◌, refl, List, [], ◌∷◌, ◌++◌, ℕ, zero, suc, ◌+◌, ◌≤◌, ℤ, pos, nat_abs}
use Rattle.std.proofs.Common.{sym, ◌∙◌, arith, SFits}
use Rattle.std.proofs.Math.Path.{ap}
use Rattle.std.proofs.Math.ListN.{length, length-append}
use Rattle.std.specs.Int.{w64}
use Rattle.std.proofs.Math.Facts.{to_z-of_z}
use Rattle.text.specs.Level.Sign.{kept, kept-size}
use Rattle.text.specs.Word.{only_differing}
use Rattle.text.specs.Written.{Wrote}
use Rattle.catalogue.specs.Groups.{PartIn}
use Rattle.catalogue.specs.declared.groups.Part.{Part}
use Rattle.catalogue.specs.declared.groups.Part.TheVariants.{Whole, Output}
use Rattle.catalogue.specs.declared.row.Kind.{Kind}
use Rattle.catalogue.specs.declared.row.Kind.TheVariants as kind
use Rattle.values.specs.declared.parameter.Parameter.{Parameter}
use Rattle.spelling.specs.Line.{line_for}
use Rattle.spelling.specs.Line.Writing.{other_verb_room, zero_room}
use Rattle.spelling.specs.Name.{front, name}
use Rattle.spelling.specs.Say.{output_or, say, said_part}
use Rattle.spelling.specs.Say.Laws.{said_in, said-whole, whole_in}
use Rattle.spelling.specs.Text.{part_text, text_of}
use Rattle.spelling.specs.Text.Parts.{whole_text_lem}

-- ---- which part is said

pub output_none : (o : ℕ) → o ≡ 0 → Whole ≡ output_or o
unfolding output_or
output_none o e = rw e

pub output_one : (o : ℕ) → (o ≡ 0 → ⊥) → Output o ≡ output_or o
unfolding output_or
output_one zero h = absurd (h (omega arith))
output_one (suc o) h = refl

pub ruleset output_or_lem = (output_none, output_one)

module _ (k : Kind) (v x : ℤ) where
  pub said-plain : (k ≡ kind.Word → ⊥) → Whole ≡ said_part k v x
  said-plain h = sym (said-whole k v x h)

  pub said-word : (from to o : ℕ) (part : Part) → SFits w64 v → SFits w64 x → k ≡ kind.Word → from ≡ nat_abs (kept v) → to ≡ nat_abs (kept x)
      → o ≡ only_differing from to → part ≡ output_or o → part ≡ said_part k v x
  unfolding said_part
  said-word from to o part f g e a b h r = r ∙ rw (e, h, a, b, kept-size v f, kept-size x g)

pub ruleset saying = (said-plain, said-word)

-- ---- how long the line is

module _ (t : List ℕ) (p : Parameter) (present wanted : ℤ) (f : SFits w64 present) (g : SFits w64 wanted) (part : Part)
    (e : part ≡ said_part p.row.kind (kept present) (kept wanted)) where
  said : part ≡ said_part p.row.kind present wanted
  said = e ∙ rw (to_z-of_z f, to_z-of_z g)

  pub line_length_is : (n r : ℕ) → n ≡ length (name t p part) → r ≡ length (part_text p.row.kind part (kept wanted))
      → 4 + n + r ≡ length (say t p present wanted ++ (0x0D ∷ []))
  unfolding say line_for front
  line_length_is n r named valued = simp length-append (rw (← said, named, valued, to_z-of_z g) (omega arith))

  -- ---- the line

  pub said-one : PartIn part
  said-one = rw e (said_in p.row.kind (kept present) (kept wanted))

  pub say-room : (verb long : ℕ) → length (say t p present wanted ++ (0x0D ∷ [])) ≤ long → length (line_for verb t p part (kept wanted) ++ (0x0D ∷ [])) ≤ long
  unfolding say
  say-room verb long h = other_verb_room 0x53 verb t p part wanted long (rw (← said) at h) g

  pub say-zero_room : (verb long : ℕ) → length (say t p present wanted ++ (0x0D ∷ [])) ≤ long → length (line_for verb t p part (pos 0) ++ (0x0D ∷ [])) ≤ long
  unfolding say
  say-zero_room verb long h = zero_room 0x53 verb t p part wanted long (rw (← said) at h)

  pub wrote_say : (r : ℕ) (l m : List ℕ) → Wrote l 0 (line_for 0x53 t p part (kept wanted) ++ (0x0D ∷ [])) r m → Wrote l 0 (say t p present wanted ++ (0x0D ∷ [])) r m
  unfolding say
  wrote_say r l m w = rw (← said) (rw (to_z-of_z g) at w)

pub ruleset say_lengths = (line_length_is)

pub ruleset say_writing = (said-one, say-room, say-zero_room, wrote_say)

-- ---- a whole value's line

module _ (t : List ℕ) (p : Parameter) (wanted : ℤ) (g : SFits w64 wanted) where
  pub whole-length_is : (n r : ℕ) → n ≡ length (name t p Whole) → r ≡ length (text_of p.row.kind (kept wanted))
      → 4 + n + r ≡ length (line_for 0x53 t p Whole wanted ++ (0x0D ∷ []))
  unfolding line_for front
  whole-length_is n r named valued =
      let e : length (part_text p.row.kind Whole wanted) ≡ length (text_of p.row.kind wanted) = ap length (whole_text_lem p.row.kind wanted) in
      simp length-append (rw (named, valued, to_z-of_z g) (omega arith))

  pub whole_room : (verb long : ℕ) → length (line_for 0x53 t p Whole wanted ++ (0x0D ∷ [])) ≤ long → length (line_for verb t p Whole (kept wanted) ++ (0x0D ∷ [])) ≤ long
  whole_room verb long h = other_verb_room 0x53 verb t p Whole wanted long h g

  pub whole-zero_room : (verb long : ℕ) → length (line_for 0x53 t p Whole wanted ++ (0x0D ∷ [])) ≤ long → length (line_for verb t p Whole (pos 0) ++ (0x0D ∷ [])) ≤ long
  whole-zero_room verb long h = zero_room 0x53 verb t p Whole wanted long h

  pub wrote_whole_line : (r : ℕ) (l m : List ℕ) → Wrote l 0 (line_for 0x53 t p Whole (kept wanted) ++ (0x0D ∷ [])) r m
      → Wrote l 0 (line_for 0x53 t p Whole wanted ++ (0x0D ∷ [])) r m
  wrote_whole_line r l m w = rw (to_z-of_z g) at w

pub ruleset whole_lengths = (whole-length_is)

pub ruleset whole_writing = (whole_in, whole_room, whole-zero_room, wrote_whole_line)
