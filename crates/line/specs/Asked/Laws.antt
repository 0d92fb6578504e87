-- That the get line of a parameter asks for it, and is answered with its value.
use Rattle.std.specs.Prelude.{◌≡◌, refl, List, ◌∷◌, ◌++◌, ℕ, ◌+◌, ◌≤◌, ℤ, pos, length, get_or, None}
use Rattle.std.proofs.Common.{◌∙◌, ap, arith, SFits}
use Rattle.std.specs.Int.{w64}
use Rattle.text.specs.Cut.{index_of, part}
use Rattle.text.specs.Cut.Lacking.{lacks_cons, lacks_append}
use Rattle.catalogue.specs.Groups.{groups_of}
use Rattle.catalogue.specs.declared.groups.Part.{Part}
use Rattle.record.specs.Field.Bytes.{label_right_lem, label-no_quote, label-no_return}
use Rattle.room.specs.Label.{label, bearer}
use Rattle.values.specs.Control.Laws.{PartOf, named_back}
use Rattle.values.specs.Parameters.{place}
use Rattle.values.specs.Room.{Room}
use Rattle.values.specs.declared.parameter.Parameter.{Parameter}
use Rattle.syntax.specs.IndexPart.{read_indices}
use Rattle.syntax.specs.Shape.Getting.{GetLine, get_line-length, get_line-shape, get_line-label, get_line-indices}
use Rattle.spelling.specs.IndexText.{index_text}
use Rattle.spelling.specs.IndexText.Laws.{indices-lack}
use Rattle.spelling.specs.Reply.{get_reply}
use Rattle.line.specs.Answer.{act, answer}
use Rattle.line.specs.Answer.Laws.{answered}
use Rattle.line.specs.Asked.{get_line}
use Rattle.line.specs.Meaning.Laws.{Gets, gets_back}
use Rattle.line.specs.Said.Naming.{Reached, held-short, no_return, reached_indices, reached_part}
use Rattle.line.specs.declared.meaning.Meaning.TheVariants.{Get}

zero_fits : SFits w64 (pos 0)
zero_fits = record { sfits = omega arith }

module _ (t : List ℕ) (p : Parameter) (r : Reached t p) (u : Part) (has : PartOf p u) where
  abbrev of : List ℕ
  of = label t p.owner

  abbrev indices : List ℕ
  indices = index_text (groups_of p.row.indices u)

  get_line_lem : GetLine (get_line t p u) (label t p.owner) (index_text (groups_of p.row.indices u))
  unfolding get_line
  get_line_lem = record { bytes = refl; unquoted = label-no_quote (label t p.owner) r.right }

  pub asked-short : length (get_line t p u) ≤ 64
  asked-short =
      let l = (label_right_lem of r.right).most in
      let i = held-short t p r u (pos 0) (reached_part t p r u has) zero_fits in
      omega (arith, get_line-length (get_line t p u) of indices get_line_lem)

  -- it has no 0D
  pub asked-whole : index_of 0x0D (get_line t p u) ≡ length (get_line t p u)
  unfolding get_line
  asked-whole =
      lacks_cons 0x0D 0x47 _ (λ e. omega arith)
      (lacks_cons 0x0D 0x41 _ (λ e. omega arith)
      (lacks_cons 0x0D 0x22 (of ++ (0x22 ∷ indices)) (λ e. omega arith)
      (lacks_append 0x0D of (0x22 ∷ indices) (label-no_return of r.right)
      (lacks_cons 0x0D 0x22 indices (λ e. omega arith) (indices-lack 0x0D no_return (groups_of p.row.indices u))))))

  asks : Gets t (get_line t p u) p u
  asks =
      let line = get_line t p u in
      let l = label t p.owner in
      let i = index_text (groups_of p.row.indices u) in
      let labelled : part line (2 + 1) (3 + length l) ≡ l = get_line-label line l i get_line_lem in
      let indexed : part line (3 + length l + 1) (length line) ≡ i = get_line-indices line l i get_line_lem in
      record {
        quote = 2;
        close = 3 + length l;
        shaped = get_line-shape line l i get_line_lem asked-short;
        names = record {
          one = ap (bearer t) labelled ∙ r.one;
          groups = groups_of p.row.indices u;
          right = ap read_indices indexed ∙ reached_indices t p r u has;
          names = named_back p u r.known r.own has;
        };
      }

-- it is answered with the present value of the part that it names, and no value changes
pub asked-answer : (r : Room) (vs : List ℤ) (p : Parameter) (u : Part) → Reached r.table p → PartOf p u
    → answer r vs (get_line r.table p u) ≡ record { reply = get_reply r.table p u (get_or vs (place p) (pos 0)); values = vs; fault = None }
unfolding act
asked-answer r vs p u n has =
    answered r vs (get_line r.table p u) (Get p u) (gets_back r vs (get_line r.table p u) p u (asks r.table p n u has))
