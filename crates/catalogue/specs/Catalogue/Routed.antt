-- A row that is a word is the routing word of an input of a mixer.
use Rattle.std.specs.Prelude.{◌≡◌, refl, Bool, true, false, ℕ, ◌+◌, ◌-◌, ◌*◌, ◌≤◌, ◌<◌, length}
use Rattle.std.proofs.Common.{sym, ◌∙◌, ap, arith}
use Rattle.text.specs.Every.{every}
use Rattle.text.specs.Every.Laws.{every-at, never}
use Rattle.catalogue.specs.Catalogue.{catalogue, fixed, known_layout, level, minus, no_row, number, row_of, rows_of, switch}
use Rattle.catalogue.specs.Catalogue.Each.{entry_test, every-type}
use Rattle.catalogue.specs.Catalogue.Laws.{Laid, fixed-not_mixer, fixed-rows, laid, mixer-counts, mixer_row-of, mixer-size}
use Rattle.catalogue.specs.Catalogue.Laws as layout
use Rattle.catalogue.specs.Mixer.{channel_row, fader, mute, route_row}
use Rattle.catalogue.specs.Mixer.Indexed.{Channel, Stands, channel_is, row_stands}
use Rattle.catalogue.specs.Mixer.Indexed as stands
use Rattle.catalogue.specs.declared.layout.Layout.{Layout}
use Rattle.catalogue.specs.declared.row.Indices.TheVariants.{TwoGroups}
use Rattle.catalogue.specs.declared.row.Kind.{Kind}
use Rattle.catalogue.specs.declared.row.Kind.TheVariants.{Level, Switch, Number, Word}
use Rattle.catalogue.specs.declared.row.Row.{Row}

-- the row r of the layout l is the routing word of an input, counted from 0
pub record Routed (l : Layout) (r : Row) : Type 0 where
  pub input : ℕ
  pub is : r ≡ route_row l.outputs input
  pub few : input < 32
  pub some : 1 ≤ l.outputs
  pub most : l.outputs ≤ 32

pub routed-indices : (l : Layout) (r : Row) (h : Routed l r) → r.indices ≡ TwoGroups 3 (h.input + 1)
unfolding route_row
routed-indices l r h = ap (λ x. x.indices) h.is

-- no row of the catalogue is a word
unfoldable no_word : Row → Bool
no_word r = go r.kind
  where
    go : Kind → Bool
    go Level = true
    go Switch = true
    go Number = true
    go Word = false

catalogue-words : every (entry_test no_word) catalogue ≡ true
unfolding no_word every catalogue level switch number minus
catalogue-words = refl

none_word : (r : Row) → no_word r ≡ true → r.kind ≡ Word → ⊥
unfolding no_word
none_word r h e = never (sym (ap (λ k. no_word (record { indices = r.indices; kind = k; low = r.low; high = r.high; step = r.step; settable = r.settable })) e) ∙ h)

-- nor is a level or a mute
channel_word : (group k : ℕ) → (channel_row group k).kind ≡ Word → ⊥
unfolding fader mute
channel_word group k e = go (channel_is group k) e
  where
    go : {r : Row} → Channel group k r → r.kind ≡ Word → ⊥
    go (stands.level p) f = let z : ◌≡◌ {A = ℕ} 0 1 = cc in omega arith
    go (stands.switch p) f = let z : ◌≡◌ {A = ℕ} 0 1 = cc in omega arith

fixed-none : (l : Layout) (j : ℕ) → (l.kind ≡ 7 → ⊥) → j < length (rows_of l) → (row_of l j).kind ≡ Word → ⊥
unfolding row_of
fixed-none l j n h w =
    let t : every no_word (rows_of l) ≡ true = rw (fixed-rows l n) (every-type no_word l.kind catalogue catalogue-words) in
    none_word (row_of l j) (every-at no_word (rows_of l) no_row t j h) w

pub fixed-no_word : (l : Layout) (j : ℕ) → fixed l.kind ≡ true → j < length (rows_of l) → (row_of l j).kind ≡ Word → ⊥
fixed-no_word l j f = fixed-none l j (fixed-not_mixer l.kind f)

pub row_routed : (l : Layout) (j : ℕ) → known_layout l ≡ true → j < length (rows_of l) → (row_of l j).kind ≡ Word → Routed l (row_of l j)
row_routed l j k h w = go (laid l)
  where
    inside : l.kind ≡ 7 → {r : Row} → Stands l.inputs l.outputs j r → r.kind ≡ Word → row_of l j ≡ r → Routed l (row_of l j)
    inside e (stands.input p) f q = absurd (channel_word 1 j f)
    inside e (stands.output p m) f q = absurd (channel_word 2 (j - 2 * l.inputs) f)
    inside e (stands.route p) f q =
        let s = mixer-size l k e in
        record {
          input = j - 2 * l.inputs - 2 * l.outputs;
          is = q;
          few = omega (arith, mixer-counts l e, s.inputs_most);
          some = s.some_outputs;
          most = s.outputs_most;
        }

    go : Laid l → Routed l (row_of l j)
    go (layout.other n) = absurd (fixed-none l j n h w)
    go (layout.mixer e) =
        let q = mixer_row-of l e j h in
        inside e (row_stands l.inputs l.outputs j) (ap (λ r. r.kind) (sym q) ∙ w) q
