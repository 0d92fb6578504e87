-- Laws of a turn for C: what one tells that serves nobody, and that it keeps the promise of a turn, so that what is proved of turns holds of it.
use Rattle.std.specs.Prelude.{◌≡◌, cond, List, [], ◌∷◌, ℕ, suc, eqb, ℤ, get_or, None, Option, Some}
use Rattle.std.proofs.Math.Path.{refl, sym, ap}
use Rattle.std.proofs.Common.{◌∙◌}
use Rattle.std.proofs.Math.ListN.{length, set}
use Rattle.values.specs.Room.{Room}
use Rattle.line.specs.Fault.Laws.{none_numbers}
use Rattle.connections.specs.Round.{last_after}
use Rattle.connections.proofs.Laws.Round.Seeking.{last_nobody, last_one}
use Rattle.connections.specs.Turn.{Asked, Told, Turns, chosen, turn, turn_number}
use Rattle.connections.proofs.Laws.Turn.Kept.{Leaves, leaves_all, leaves_others, nobody_told, refused-told, served-place, turn-kept}
use Rattle.connections.proofs.Laws.Turn.Laws.{turn_number_lem}
use Rattle.capi.specs.Connections.{connection_of, row_of}
use Rattle.capi.specs.Connections.Places.{row_size, row_stored}
use Rattle.capi.specs.Port.{PortAnswer, port_tells}
use Rattle.capi.specs.Port.Laws.{claim-said}
use Rattle.capi.specs.Turn.{Left, TurnCalled, asked_of, called, counted, put_back, served_numbers, told_numbers, turn_answer}

module _ (r : Room) (a : Asked) where
  -- a refusal counts zero, and changes neither the values nor the reply buffer
  pub answer-refused : (n : ℕ) → turn_number r a ≡ suc n → turn_answer r a ≡ port_tells (suc n) (0 ∷ 0 ∷ 0 ∷ 0 ∷ 0 ∷ 0 ∷ []) a.values a.buffer
  unfolding turn_answer counted told_numbers served_numbers
  answer-refused n e = rw (refused-told r a n e, ← (none_numbers None refl)) refl

  -- nor does a turn with nobody waiting
  pub answer-nobody : turn_number r a ≡ 0 → chosen a ≡ None → turn_answer r a ≡ port_tells 0 (0 ∷ 0 ∷ 0 ∷ 0 ∷ 0 ∷ 0 ∷ []) a.values a.buffer
  unfolding turn_answer counted told_numbers served_numbers
  answer-nobody e q = rw (nobody_told r a e q, ← (none_numbers None refl)) refl

module _ (r : Room) (a : Asked) (row row' : List ℕ) (said : a.row ≡ row_of row) where
  -- the row that the bytes say is left as a turn leaves it
  leaves : (s : Option ℕ) → (turn r a).served ≡ s → Left r a s row row' → Leaves r a (row_of row') s
  unfolding connection_of
  leaves None e same = leaves_all (ap row_of same ∙ sym said)
  leaves (Some i) e (put_back port size stores placed) =
      let at = served-place r a i e in
      let n : length (1 ∷ port) ≡ 67 = rw size refl in
      leaves_others i (connection_of (1 ∷ port)) (ap row_of placed ∙ row_stored row (1 ∷ port) i (row_size row (sym (ap length said) ∙ at.0)) at.1 n ∙ ap (λ row. set row i (connection_of (1 ∷ port))) (sym said)) refl stores.seen (claim-said port stores.few)

last_told : (last : ℕ) (t : Told) (s : Option ℕ) → t.served ≡ s → last_after last t.served ≡ cond (eqb (get_or (told_numbers t) 0 0) 1) (get_or (told_numbers t) 1 0) last
unfolding told_numbers served_numbers
last_told last t None e = rw e (sym (last_nobody last None refl))
last_told last t (Some i) e = rw e (sym (last_one last i (Some i) refl))

module _ {r : Room} {vs : List ℤ} {row : List ℕ} {last : ℕ} {given counts reply : List ℕ} {g : ℕ} {vs' : List ℤ} {row' reply' told' : List ℕ} where
  -- the two parts of the promise
  pub answers_by : TurnCalled r vs row last given counts reply g vs' row' reply' told' → port_tells g told' vs' reply' ≡ turn_answer r (asked_of row last counts given vs reply)
  answers_by (called answers left) = answers

  pub left_by : TurnCalled r vs row last given counts reply g vs' row' reply' told'
      → Left r (asked_of row last counts given vs reply) (turn r (asked_of row last counts given vs reply)).served row row'
  left_by (called answers left) = left

  -- the number, the values and the reply buffer are those that the turn tells
  pub number_by_lem : TurnCalled r vs row last given counts reply g vs' row' reply' told' → g ≡ turn_number r (asked_of row last counts given vs reply)
  unfolding port_tells turn_answer counted
  number_by_lem c = ap (λ (x : PortAnswer). x.number) (answers_by c) ∙ turn_number_lem r (asked_of row last counts given vs reply)

  pub values_by : TurnCalled r vs row last given counts reply g vs' row' reply' told' → vs' ≡ (turn r (asked_of row last counts given vs reply)).values
  unfolding port_tells turn_answer counted
  values_by c = ap (λ (x : PortAnswer). x.values) (answers_by c)

  pub reply_by : TurnCalled r vs row last given counts reply g vs' row' reply' told' → reply' ≡ (turn r (asked_of row last counts given vs reply)).buffer
  unfolding port_tells turn_answer counted
  reply_by c = ap (λ (x : PortAnswer). x.reply) (answers_by c)

  -- the six numbers are those of the turn
  pub told-by : TurnCalled r vs row last given counts reply g vs' row' reply' told' → told' ≡ told_numbers (turn r (asked_of row last counts given vs reply))
  unfolding port_tells turn_answer counted
  told-by c = ap (λ (x : PortAnswer). x.told) (answers_by c)

  -- the last served as it stands after the turn: the second of them where the first is 1, and else as it was
  pub last_by : TurnCalled r vs row last given counts reply g vs' row' reply' told'
      → last_after last (turn r (asked_of row last counts given vs reply)).served ≡ cond (eqb (get_or told' 0 0) 1) (get_or told' 1 0) last
  last_by c = let t = turn r (asked_of row last counts given vs reply) in rw (told-by c) (last_told last t t.served refl)

  -- a turn for C is a turn over the row that its bytes say; so the laws of turns hold of it
  pub turned : TurnCalled r vs row last given counts reply g vs' row' reply' told'
      → Turns r (asked_of row last counts given vs reply) (turn r (asked_of row last counts given vs reply)) (row_of row')
  turned c =
      let a = asked_of row last counts given vs reply in
      turn-kept r a (row_of row') (leaves r a row row' refl (turn r a).served refl (left_by c))
