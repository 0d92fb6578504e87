-- What a text says of a part, by the part.
use Rattle.std.specs.Prelude.{◌≡◌, refl, List, ℕ, ℤ}
use Rattle.catalogue.specs.declared.groups.Part.TheVariants.{Whole, Output}
use Rattle.catalogue.specs.declared.row.Kind.{Kind}
use Rattle.syntax.specs.Value.{read_kind, read_output, read_part}

pub part-whole : (k : Kind) (present : ℤ) (s : List ℕ) → read_part k Whole present s ≡ read_kind k present s
unfolding read_part
part-whole k present s = refl

pub part-output : (k : Kind) (o : ℕ) (present : ℤ) (s : List ℕ) → read_part k (Output o) present s ≡ read_output o present s
unfolding read_part
part-output k o present s = refl
