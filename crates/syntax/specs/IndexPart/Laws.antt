-- What an index part says, and when.
use Rattle.std.specs.Prelude.{◌≡◌, refl, Bool, true, false, cond, List, [], ◌∷◌, ◌++◌, ℕ, eqb, Option, Some, None}
use Rattle.std.proofs.Common.{◌∙◌, ap, arith, eqb-true}
use Rattle.text.specs.Cut.{has, before, after}
use Rattle.text.specs.Cut.Lacking.{after-joined, before-joined, has-joined, has-not, parts_joined}
use Rattle.catalogue.specs.declared.groups.Group.{Group}
use Rattle.catalogue.specs.declared.groups.Groups.{Groups}
use Rattle.catalogue.specs.declared.groups.Groups.TheVariants.{OneGroup, TwoGroups}
use Rattle.syntax.specs.IndexGroup.{read_group}
use Rattle.syntax.specs.IndexGroup.Laws.{GroupSays, group_told, group_said, group_lacks}
use Rattle.syntax.specs.IndexPart.{one_group, two_groups, groups, read_indices}

-- the group after one `>`, or the groups after two
pub data Says (s : List ℕ) : Groups → Type 0 where
  one : (u : List ℕ) (g : Group) → s ≡ 0x3E ∷ u → GroupSays u g → Says s (OneGroup g)
  two : (u w : List ℕ) (g h : Group) → s ≡ 0x3E ∷ (u ++ (0x3E ∷ w)) → GroupSays u g → GroupSays w h → Says s (TwoGroups g h)

-- ---- what an index part that is right says

wrong {ℓ} : {A : Type ℓ} (i : Groups) → None ≡ Some i → A
wrong i h = absurd (let z : ◌≡◌ {A = ℕ} 0 1 = cc in omega arith)

one_told : (s u : List ℕ) (i : Groups) (x : Option Group) → s ≡ 0x3E ∷ u → read_group u ≡ x → one_group x ≡ Some i → Says s i
unfolding one_group
one_told s u i (Some g) p e k = let q : OneGroup g ≡ i = cc in rw q at (one u g p (group_told u g e))
one_told s u i None p e k = wrong i k

two_told : (s u w : List ℕ) (i : Groups) (x y : Option Group) → s ≡ 0x3E ∷ (u ++ (0x3E ∷ w)) → read_group u ≡ x → read_group w ≡ y → two_groups x y ≡ Some i → Says s i
unfolding two_groups
two_told s u w i (Some g) (Some h) p e f k = let q : TwoGroups g h ≡ i = cc in rw q at (two u w g h p (group_told u g e) (group_told w h f))
two_told s u w i (Some g) None p e f k = wrong i k
two_told s u w i None (Some h) p e f k = wrong i k
two_told s u w i None None p e f k = wrong i k

groups-told : (s u : List ℕ) (i : Groups) → s ≡ 0x3E ∷ u → groups u ≡ Some i → Says s i
unfolding groups
groups-told s u i p h = go (has 0x3E u) refl h
  where
    go : (b : Bool) → has 0x3E u ≡ b
        → cond b (two_groups (read_group (before 0x3E u)) (read_group (after 0x3E u))) (one_group (read_group u)) ≡ Some i → Says s i
    go true t h =
        let q : s ≡ 0x3E ∷ (before 0x3E u ++ (0x3E ∷ after 0x3E u)) = p ∙ ap (λ l. 0x3E ∷ l) (parts_joined 0x3E u t) in
        two_told s (before 0x3E u) (after 0x3E u) i (read_group (before 0x3E u)) (read_group (after 0x3E u)) q refl refl h
    go false t h = one_told s u i (read_group u) p refl h

pub indices-told : (s : List ℕ) (i : Groups) → read_indices s ≡ Some i → Says s i
unfolding read_indices
indices-told [] i h = wrong i h
indices-told (b ∷ u) i h = go (eqb b 0x3E) refl h
  where
    go : (t : Bool) → eqb b 0x3E ≡ t → cond t (groups u) None ≡ Some i → Says (b ∷ u) i
    go true t h = groups-told (b ∷ u) u i (ap (λ x. x ∷ u) (eqb-true b 0x3E t)) h
    go false t h = wrong i h

-- ---- an index part that says groups is right

pub indices-said : (s : List ℕ) (i : Groups) → Says s i → read_indices s ≡ Some i
unfolding read_indices groups one_group two_groups
indices-said s i (one u g p e) = rw (p, has-not 0x3E u (group_lacks u g e), group_said u g e)
indices-said s i (two u w g h p e f) =
    let n = group_lacks u g e in
    rw (p, has-joined 0x3E u w n, before-joined 0x3E u w n, after-joined 0x3E u w n, group_said u g e, group_said w h f)
