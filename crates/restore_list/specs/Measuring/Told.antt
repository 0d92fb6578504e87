-- What measuring tells: whether the changes are within reach, their bytes and their lines.
use Rattle.std.specs.Prelude.{◌≡◌, refl, Bool, true, false, List, ℕ, ◌*◌, ◌≤◌, ◌<◌, leb, length}
use Rattle.std.proofs.Common.{ap, sym, ◌∙◌, arith, le-leb, leb-false, leb-true}
use Rattle.std.proofs.lemmas.Bool.{lt-leb}
use Rattle.catalogue.specs.Catalogue.{row_limit}
use Rattle.wish.specs.Listing.{Change, all_reachable, list_number, listing}
use Rattle.wish.specs.Listing.Numbers.{list-fits, list-long, list-unreachable}
use Rattle.restore_list.specs.Measuring.{Few, Measures, measured, measured_if, measured_number}
use Rattle.restore_list.specs.declared.module_measuring.Measured.{Measured}
use Rattle.restore_list.specs.declared.module_measuring.Measured.TheVariants.{Within, Beyond}

pub flag_beyond : (b : Bool) (t : List ℕ) (cs : List Change) → Beyond ≡ measured_if b t cs → b ≡ false
unfolding measured_if
flag_beyond true t cs e = absurd (let z : ◌≡◌ {A = ℕ} 0 1 = cc in omega arith)
flag_beyond false t cs e = refl

pub flag_within : (b : Bool) (t : List ℕ) (cs : List Change) (bytes lines : ℕ) → Within bytes lines ≡ measured_if b t cs
    → (b ≡ true) × (bytes ≡ length (listing t cs)) × (lines ≡ length cs)
unfolding measured_if
flag_within true t cs bytes lines e = (refl, cc, cc)
flag_within false t cs bytes lines e = absurd (let z : ◌≡◌ {A = ℕ} 0 1 = cc in omega arith)

pub beyond_told : (t : List ℕ) (cs : List Change) → Beyond ≡ measured t cs → all_reachable t cs ≡ false
unfolding measured
beyond_told t cs e = flag_beyond (all_reachable t cs) t cs e

pub within-told : (t : List ℕ) (cs : List Change) (bytes lines : ℕ) → Within bytes lines ≡ measured t cs
    → (all_reachable t cs ≡ true) × (bytes ≡ length (listing t cs)) × (lines ≡ length cs)
unfolding measured
within-told t cs bytes lines e = flag_within (all_reachable t cs) t cs bytes lines e

-- ---- the number of each case, and that it is the one that the list's definition gives

pub number-beyond : (room : ℕ) → measured_number Beyond room ≡ 7
unfolding measured_number
number-beyond room = refl

pub number-long : (bytes lines room : ℕ) → room < bytes → measured_number (Within bytes lines) room ≡ 8
unfolding measured_number
number-long bytes lines room h = rw (lt-leb bytes room h)

pub number_fits : (bytes lines room : ℕ) → bytes ≤ room → measured_number (Within bytes lines) room ≡ 0
unfolding measured_number
number_fits bytes lines room h = rw (le-leb bytes room h)

pub number-told : (t : List ℕ) (cs : List Change) (room : ℕ) → measured_number (measured t cs) room ≡ list_number t room cs
unfolding measured measured_if
number-told t cs room = go (all_reachable t cs) (leb (length (listing t cs)) room) refl refl
  where
    go : (b n : Bool) → all_reachable t cs ≡ b → leb (length (listing t cs)) room ≡ n → measured_number (measured_if b t cs) room ≡ list_number t room cs
    go false n r e = number-beyond room ∙ sym (list-unreachable t room cs r)
    go true false r e =
        let h = leb-false (length (listing t cs)) room e in
        number-long (length (listing t cs)) (length cs) room h ∙ sym (list-long t room cs r h)
    go true true r e =
        let h = leb-true (length (listing t cs)) room e in
        number_fits (length (listing t cs)) (length cs) room h ∙ sym (list-fits t room cs r h)

pub measures_by : (t : List ℕ) (cs : List Change) (r : Measured) → r ≡ measured t cs → Measures t cs r
measures_by t cs r e = record { is = e; numbers = λ room. ap (λ m. measured_number m room) e ∙ number-told t cs room }

-- ---- few bytes and lines

pub few_beyond : Few Beyond
few_beyond =
    record {
      bytes = λ b l e. absurd (let z : ◌≡◌ {A = ℕ} 0 1 = cc in omega arith);
      lines = λ b l e. absurd (let z : ◌≡◌ {A = ℕ} 0 1 = cc in omega arith);
    }

pub few_within : (bytes lines : ℕ) → bytes ≤ 128 * row_limit → lines ≤ row_limit → Few (Within bytes lines)
few_within bytes lines h k =
    record {
      bytes = λ b l e. let q : bytes ≡ b = cc in omega arith;
      lines = λ b l e. let q : lines ≡ l = cc in omega arith;
    }
