-- The changes of some parameters, walked from one place to the next.
use Rattle.std.specs.Prelude.{◌≡◌, refl, Bool, cond, List, [], ◌∷◌, ℕ, ◌+◌, ◌≤◌, ◌<◌, ℤ, pos, length, get_or, drop}
use Rattle.std.proofs.Common.{add-one, drop_of_length-le, drop-cons}
use Rattle.values.specs.Values.{equal}
use Rattle.values.specs.declared.parameter.Parameter.{Parameter}
use Rattle.wish.specs.Listing.{changes_of}

-- from a place on: the change there, where the two values differ, and those behind it
pub changes-from : (ps : List Parameter) (vs xs : List ℤ) (j : ℕ) (d : Parameter) (b : Bool) → j < length ps → j < length vs → j < length xs
    → equal (get_or vs j (pos 0)) (get_or xs j (pos 0)) ≡ b
    → changes_of (drop j ps) (drop j vs) (drop j xs)
    ≡ cond b (changes_of (drop (j + 1) ps) (drop (j + 1) vs) (drop (j + 1) xs))
    (record { parameter = get_or ps j d; present = get_or vs j (pos 0); target = get_or xs j (pos 0) } ∷
    changes_of (drop (j + 1) ps) (drop (j + 1) vs) (drop (j + 1) xs))
unfolding changes_of
changes-from ps vs xs j d b k l m e = rw (add-one, drop-cons ps j d k, drop-cons vs j (pos 0) l, drop-cons xs j (pos 0) m, e)

none_left : (ps : List Parameter) (xs : List ℤ) → changes_of ps [] xs ≡ []
unfolding changes_of
none_left [] xs = refl
none_left (p ∷ ps) xs = refl

-- past the last value there is none
pub changes-past : (ps : List Parameter) (vs xs : List ℤ) (j : ℕ) → length vs ≤ j → changes_of (drop j ps) (drop j vs) (drop j xs) ≡ []
changes-past ps vs xs j l = rw (drop_of_length-le vs l) (none_left (drop j ps) (drop j xs))
