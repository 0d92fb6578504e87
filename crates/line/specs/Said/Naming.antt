-- A set line that names a parameter as a line and a reply do: how long it is, and how its parts are read.
use Rattle.std.specs.Prelude.{◌≡◌, refl, true, List, ◌∷◌, ◌++◌, ℕ, ◌+◌, ◌≤◌, ℤ, pos, nat_abs, length, get_or, Ok, Some}
use Rattle.std.proofs.Common.{◌∙◌, ap, arith, SFits}
use Rattle.std.specs.Int.{w64}
use Rattle.text.specs.Cut.{index_of, part}
use Rattle.text.specs.Cut.Lacking.{lacks_cons, lacks_append}
use Rattle.text.specs.Byte.Values.{equals-other, return_other}
use Rattle.catalogue.specs.Catalogue.{known_layout}
use Rattle.catalogue.specs.Catalogue.Sized.{Sized, permitted-sized, sized_indices, sized_row}
use Rattle.catalogue.specs.Catalogue.Sized.Groups.{row_indices}
use Rattle.room.specs.Label.{label, bearer}
use Rattle.room.specs.Label.Laws.{bearer-found}
use Rattle.record.specs.Field.Bytes.{label_right_lem, label-no_quote, label-no_return}
use Rattle.values.specs.Parameters.{parameters, parameters_of, parameter_at, place}
use Rattle.values.specs.Parameters.Places.{at_place}
use Rattle.values.specs.Control.Laws.{PartOf, named_back}
use Rattle.values.specs.Parameters.Named.{row_sized}
use Rattle.catalogue.specs.Catalogue.{known_layout}
use Rattle.catalogue.specs.Groups.{PartIn, groups_of}
use Rattle.catalogue.specs.declared.groups.Part.{Part}
use Rattle.catalogue.specs.declared.groups.Part.TheVariants.{Whole, Output}
use Rattle.catalogue.specs.Row.{permitted}
use Rattle.room.specs.Table.{sound}
use Rattle.record.specs.Field.{label_right}
use Rattle.values.specs.declared.parameter.Parameter.{Parameter}
use Rattle.syntax.specs.Shape.{shape}
use Rattle.syntax.specs.Shape.Laws.{SetLine, set_line_length, set_line_shape, set_line_label, set_line_indices, set_line_text}
use Rattle.syntax.specs.IndexPart.{read_indices}
use Rattle.line.specs.Said.Indices.{indices-back, row_small}
use Rattle.line.specs.Meaning.Outputs.{part_in}
use Rattle.syntax.specs.Value.Laws.{Valued}
use Rattle.values.specs.Room.{Room, row_in}
use Rattle.line.specs.Meaning.Laws.{Names, Puts}
use Rattle.spelling.specs.IndexText.{index_text}
use Rattle.syntax.specs.declared.shape.Shape.TheVariants as shape
use Rattle.spelling.specs.IndexText.Laws.{Foreign, indices-lack}
use Rattle.spelling.specs.IndexText.Short.{whole-short, output_short}
use Rattle.spelling.specs.Text.{part_text}
use Rattle.spelling.specs.Text.Laws.{text-short}
use Rattle.line.specs.Said.Held.{held-text}
use Rattle.spelling.specs.Text.Parts.{whole_text_lem, output_text}
use Rattle.text.specs.Switch.Laws.{switch-length}
use Rattle.text.specs.Word.{bit}

-- p is a parameter of the sound table t, and its module alone bears its label
pub record Reached (t : List ℕ) (p : Parameter) : Type 0 where
  pub right : label_right (label t p.owner) ≡ true
  pub one : bearer t (label t p.owner) ≡ Some p.owner
  pub known : known_layout p.owner.layout ≡ true
  pub own : parameter_at (parameters_of p.owner) p.number ≡ Some p

pub reached : (t : List ℕ) (k : ℕ) (p : Parameter) → sound t ≡ true → parameter_at (parameters t) k ≡ Some p
    → bearer t (label t p.owner) ≡ Some p.owner → Reached t p
reached t k p s e o =
    let f = bearer-found t (label t p.owner) p.owner s o in
    record { right = f.right; one = o; known = f.known; own = (at_place t k p e).own }

-- behind the verb: the label, the index groups of the part u and a value text
unfoldable pub rest : List ℕ → Parameter → Part → List ℕ → List ℕ
rest t p u w = 0x22 ∷ (label t p.owner ++ (0x22 ∷ (index_text (groups_of p.row.indices u) ++ (0x3D ∷ w))))

-- the set line
unfoldable pub naming : List ℕ → Parameter → Part → List ℕ → List ℕ
naming t p u w = 0x53 ∷ 0x41 ∷ rest t p u w

pub naming-rest : (t : List ℕ) (p : Parameter) (u : Part) (w : List ℕ) → naming t p u w ≡ 0x53 ∷ 0x41 ∷ rest t p u w
unfolding naming
naming-rest t p u w = refl

-- the line's places; between them stand the label and the index groups of p's part, and the text w
pub record Parts (t : List ℕ) (p : Parameter) (u : Part) (w line : List ℕ) : Type 0 where
  pub quote : ℕ
  pub close : ℕ
  pub equal : ℕ
  pub shaped : shape line ≡ Ok (shape.Set quote close equal)
  pub labelled : part line (quote + 1) close ≡ label t p.owner
  pub names : Names t (part line (quote + 1) close) (part line (close + 1) equal) p u
  pub text : part line (equal + 1) (length line) ≡ w

pub parts_put : (r : Room) (vs : List ℤ) (p : Parameter) (u : Part) (w line : List ℕ) (x : ℤ) → Parts r.table p u w line
    → Valued (row_in r p) u (get_or vs (place p) (pos 0)) w x → Puts r vs line p x
parts_put r vs p u w line x h v =
    record { quote = h.quote; close = h.close; equal = h.equal; shaped = h.shaped; control = u; names = h.names; valued = rw h.text v }

-- `=` and 0D stand in no index group
no_equals : Foreign 0x3D
no_equals =
    record { other = equals-other; no_arrow = λ e. omega arith; no_opening = λ e. omega arith; no_comma = λ e. omega arith; no_closing = λ e. omega arith }

pub no_return : Foreign 0x0D
no_return =
    record { other = return_other; no_arrow = λ e. omega arith; no_opening = λ e. omega arith; no_comma = λ e. omega arith; no_closing = λ e. omega arith }

-- a parameter of a module, whether or not another bears its label
module _ (p : Parameter) (known : known_layout p.owner.layout ≡ true) (own : parameter_at (parameters_of p.owner) p.number ≡ Some p) where
  own-sized : sized_row p.row ≡ true
  own-sized = row_sized p.owner p.number p known own

  own-indices : sized_indices p.row.indices ≡ true
  own-indices = row_indices p.row own-sized

  -- the index groups of a part, and the text of this part of any value of 64 bits
  pub own_held : (u : Part) (x : ℤ) → PartIn u → SFits w64 x → length (index_text (groups_of p.row.indices u)) + length (part_text p.row.kind u x) ≤ 26
  own_held Whole x k f = rw (whole_text_lem p.row.kind x) (omega (arith, whole-short p.row.indices own-indices, held-text p.row.kind x f))
  own_held (Output o) x k f =
      rw (output_text p.row.kind o x) (omega (arith, output_short p.row.indices o own-indices (k.most o refl), switch-length (bit o (nat_abs x))))

module _ (t : List ℕ) (p : Parameter) (r : Reached t p) where
  fits : sized_row p.row ≡ true
  fits = own-sized p r.known r.own

  indices-fit : sized_indices p.row.indices ≡ true
  indices-fit = own-indices p r.known r.own

  pub reached_sized : (x : ℤ) → permitted p.row x ≡ true → Sized p.row.kind x
  reached_sized x h = permitted-sized p.row x fits h

  pub reached_part : (u : Part) → PartOf p u → PartIn u
  reached_part u h = part_in p u r.known r.own h

  -- the index groups of a part read back
  pub reached_indices : (u : Part) → PartOf p u → read_indices (index_text (groups_of p.row.indices u)) ≡ Some (groups_of p.row.indices u)
  reached_indices u h = indices-back (groups_of p.row.indices u) (row_small p.row.indices u indices-fit (reached_part u h))

  -- the index groups and the text of a part are short
  pub said-short : (u : Part) (x : ℤ) → PartIn u → Sized p.row.kind x
      → length (index_text (groups_of p.row.indices u)) + length (part_text p.row.kind u x) ≤ 13
  said-short Whole x k z = rw (whole_text_lem p.row.kind x) (omega (arith, whole-short p.row.indices indices-fit, text-short p.row.kind x z))
  said-short (Output o) x k z =
      rw (output_text p.row.kind o x) (omega (arith, output_short p.row.indices o indices-fit (k.most o refl), switch-length (bit o (nat_abs x))))

  -- of any value of 64 bits they are not much longer
  pub held-short : (u : Part) (x : ℤ) → PartIn u → SFits w64 x → length (index_text (groups_of p.row.indices u)) + length (part_text p.row.kind u x) ≤ 26
  held-short u x k f = own_held p r.known r.own u x k f

  module _ (u : Part) where
    abbrev of : List ℕ
    of = label t p.owner

    abbrev indices : List ℕ
    indices = index_text (groups_of p.row.indices u)

    set_line : (w : List ℕ) → SetLine (naming t p u w) (label t p.owner) (index_text (groups_of p.row.indices u)) w
    unfolding naming rest
    set_line w =
        record {
          bytes = refl;
          unquoted = label-no_quote (label t p.owner) r.right;
          undivided = indices-lack 0x3D no_equals (groups_of p.row.indices u);
        }

    pub naming-within : (w : List ℕ) (n : ℕ) → length (index_text (groups_of p.row.indices u)) + length w ≤ n → length (naming t p u w) ≤ 37 + n
    naming-within w n h =
        let l = (label_right_lem (label t p.owner) r.right).most in
        omega (arith, set_line_length (naming t p u w) of indices w (set_line w))

    pub naming-short : (w : List ℕ) → length (index_text (groups_of p.row.indices u)) + length w ≤ 13 → length (naming t p u w) ≤ 50
    naming-short w h = naming-within w 13 h

    pub naming-parts : PartOf p u → (w : List ℕ) → length (index_text (groups_of p.row.indices u)) + length w ≤ 13 → Parts t p u w (naming t p u w)
    naming-parts has w h =
        let line = naming t p u w in
        let l = label t p.owner in
        let i = index_text (groups_of p.row.indices u) in
        let s = naming-short w h in
        let labelled : part line (2 + 1) (3 + length l) ≡ l = set_line_label line l i w (set_line w) in
        let indexed : part line (3 + length l + 1) (3 + length l + 1 + length i) ≡ i = set_line_indices line l i w (set_line w) in
        record {
          quote = 2;
          close = 3 + length l;
          equal = 3 + length l + 1 + length i;
          shaped = set_line_shape line l i w (set_line w) (omega arith);
          labelled = labelled;
          names = record {
            one = ap (bearer t) labelled ∙ r.one;
            groups = groups_of p.row.indices u;
            right = ap read_indices indexed ∙ reached_indices u has;
            names = named_back p u r.known r.own has;
          };
          text = set_line_text line l i w (set_line w);
        }

    pub rest-no_return : (w : List ℕ) → index_of 0x0D w ≡ length w → index_of 0x0D (rest t p u w) ≡ length (rest t p u w)
    unfolding rest
    rest-no_return w h =
        lacks_cons 0x0D 0x22 (of ++ (0x22 ∷ (indices ++ (0x3D ∷ w)))) (λ e. omega arith)
        (lacks_append 0x0D of (0x22 ∷ (indices ++ (0x3D ∷ w))) (label-no_return of r.right)
        (lacks_cons 0x0D 0x22 (indices ++ (0x3D ∷ w)) (λ e. omega arith)
        (lacks_append 0x0D indices (0x3D ∷ w) (indices-lack 0x0D no_return (groups_of p.row.indices u))
        (lacks_cons 0x0D 0x3D w (λ e. omega arith) h))))

-- two bytes more, neither of them 0D
pub verb_no_return : (a b : ℕ) (s : List ℕ) → (a ≡ 0x0D → ⊥) → (b ≡ 0x0D → ⊥) → index_of 0x0D s ≡ length s → index_of 0x0D (a ∷ b ∷ s) ≡ length (a ∷ b ∷ s)
verb_no_return a b s m n h = lacks_cons 0x0D a (b ∷ s) m (lacks_cons 0x0D b s n h)
