-- A fault is told exactly where the reply is 99: it is the cause and the place that the line's shape tells.
use Rattle.std.specs.Prelude.{◌≡◌, ◌↔◌, List, ℕ, ◌≤◌, ℤ, pos, Result, Ok, Err, Option, Some, None}
use Rattle.std.proofs.Math.Path.{refl, sym, ap}
use Rattle.std.proofs.Common.{◌∙◌, arith}
use Rattle.std.proofs.Math.ListN.{length, get_or}
use Rattle.values.specs.Parameters.{place}
use Rattle.values.specs.Room.{Room, row_in}
use Rattle.syntax.specs.Cause.{malformed}
use Rattle.syntax.specs.Shape.{shape}
use Rattle.syntax.specs.Shape.Causes.{place-within}
use Rattle.syntax.specs.Value.{read_value}
use Rattle.syntax.specs.declared.cause.Cause.{Cause}
use Rattle.syntax.specs.declared.cause.Malformed as cause
use Rattle.syntax.specs.declared.shape.Shape.{Shape}
use Rattle.syntax.specs.declared.shape.Shape.TheVariants as shape
use Rattle.spelling.specs.Acknowledgement.{nak}
use Rattle.spelling.specs.Acknowledgement.Laws.{ack-length, nak-begins, nak-length, nak-tells}
use Rattle.spelling.specs.Reply.Laws.{get_spelled}
use Rattle.line.specs.Meaning.{Target, target, code, bearer_of, get_of, meaning, of_shape, put_of, set_of}
use Rattle.line.specs.Answer.{act, answer}
use Rattle.line.specs.Answer.Laws.{answered}
use Rattle.line.specs.Answer.Replying.{code_few}
use Rattle.line.specs.declared.meaning.Meaning.{Meaning}
use Rattle.line.specs.declared.meaning.Meaning.TheVariants.{Malformed, Code, Get, Put}

never {ℓ} : {A : Type ℓ} (k : Cause) (n : ℕ) → ◌≡◌ {A = Option cause.Malformed} None (Some (record { cause = k; place = n })) → A
never k n h = absurd (let z : ◌≡◌ {A = ℕ} 0 1 = cc in omega arith)

-- the same fault has the same cause and the same place
pub same_fault : (j k : Cause) (m n : ℕ) → ◌≡◌ {A = Option cause.Malformed} (Some (record { cause = j; place = m })) (Some (record { cause = k; place = n })) → (j ≡ k) × (m ≡ n)
same_fault j k m n h =
    let q : ◌≡◌ {A = cause.Malformed} (record { cause = j; place = m }) (record { cause = k; place = n }) = cc in
    (ap (λ (x : cause.Malformed). x.cause) q, ap (λ (x : cause.Malformed). x.place) q)

module _ (r : Room) (vs : List ℤ) where
  plain-get : (g : Target) → (act r.table vs (get_of g)).fault ≡ None
  unfolding act get_of
  plain-get (target p u) = refl
  plain-get (code n) = refl

  plain-set : (text : List ℕ) (g : Target) → (act r.table vs (set_of r vs text g)).fault ≡ None
  unfolding act set_of put_of
  plain-set text (target p u) = go (read_value (row_in r p) u (get_or vs (place p) (pos 0)) text)
    where
      go : (v : Option ℤ) → (act r.table vs (put_of p v)).fault ≡ None
      go (Some x) = refl
      go None = refl
  plain-set text (code n) = refl

  module _ (line : List ℕ) where
    -- a malformed line gets 99 with its cause and place, and changes nothing
    pub malformed-answer : (k : Cause) (n : ℕ) → shape line ≡ Err (malformed k n) → answer r vs line ≡ record { reply = nak 99; values = vs; fault = Some (record { cause = k; place = n }) }
    unfolding act meaning of_shape
    malformed-answer k n e = answered r vs line (Malformed k n) (rw e)

    -- the fault that is told is the shape's, and no other line has one
    pub fault_exactly : (k : Cause) (n : ℕ) → ((answer r vs line).fault ≡ Some (record { cause = k; place = n })) ↔ (shape line ≡ Err (malformed k n))
    unfolding answer meaning of_shape
    fault_exactly k n = ((λ h. go (shape line) refl h), (λ e. ap (λ a. a.fault) (malformed-answer k n e)))
      where
        go : (s : Result Shape cause.Malformed) → shape line ≡ s → (act r.table vs (of_shape r vs line (bearer_of r.table line s) s)).fault ≡ Some (record { cause = k; place = n }) → s ≡ Err (malformed k n)
        go (Err m) e h =
            let f : ◌≡◌ {A = Option cause.Malformed} (Some (record { cause = m.cause; place = m.place })) (Some (record { cause = k; place = n })) =
            sym (ap (λ a. a.fault) (malformed-answer m.cause m.place e))
            ∙ ap (λ s. (act r.table vs (of_shape r vs line (bearer_of r.table line s) s)).fault) e ∙ h in
            let both = same_fault m.cause k m.place n f in
            let p : m.cause ≡ k = both.0 in
            let q : m.place ≡ n = both.1 in
            let g : malformed m.cause m.place ≡ malformed k n = rw (p, q) in
            ap (λ x. Err x) g
        go (Ok (shape.Get o c)) e h = never k n (sym (plain-get _) ∙ h)
        go (Ok (shape.Set o c q)) e h = never k n (sym (plain-set _ _) ∙ h)

    -- its place is at most 64
    pub fault_within : (k : Cause) (n : ℕ) → (answer r vs line).fault ≡ Some (record { cause = k; place = n }) → n ≤ 64
    fault_within k n h = place-within line k n ((fault_exactly k n).0 h)

    -- the reply is 99 exactly where a fault is told
    pub fault_exactly_99 : ((answer r vs line).reply ≡ nak 99) ↔ ((answer r vs line).fault ≡ None → ⊥)
    unfolding act
    fault_exactly_99 = go (meaning r vs line) refl
      where
        go : (m : Meaning) → meaning r vs line ≡ m → ((answer r vs line).reply ≡ nak 99) ↔ ((answer r vs line).fault ≡ None → ⊥)
        go (Malformed k n) e =
            let a = answered r vs line (Malformed k n) e in
            ((λ q f. never k n (sym f ∙ ap (λ x. x.fault) a)), (λ f. ap (λ x. x.reply) a))
        go (Code n) e =
            let a = answered r vs line (Code n) e in (
              (λ q. absurd (omega (arith, code_few r vs line n e, nak-tells n 99 (sym (ap (λ x. x.reply) a) ∙ q)))),
              (λ f. absurd (f (ap (λ x. x.fault) a))),
            )
        go (Get p u) e =
            let a = answered r vs line (Get p u) e in (
              (λ q.
                  let h = ap (λ l. get_or l 0 0) (sym (get_spelled r.table p u (get_or vs (place p) (pos 0))) ∙ sym (ap (λ x. x.reply) a) ∙ q) ∙ nak-begins 99 in
                  absurd (omega arith)),
              (λ f. absurd (f (ap (λ x. x.fault) a))),
            )
        go (Put p x) e =
            let a = answered r vs line (Put p x) e in (
              (λ q. absurd (omega (arith, ack-length, nak-length 99, ap length (sym (ap (λ x. x.reply) a) ∙ q)))),
              (λ f. absurd (f (ap (λ x. x.fault) a))),
            )
