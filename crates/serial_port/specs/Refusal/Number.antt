-- The numbers of a reply buffer and of a port's claim: 0 where each is right, and only there.
use Rattle.std.specs.Prelude.{◌≡◌, ℕ, ◌≤◌, ◌<◌, leb}
use Rattle.std.proofs.Common.{sym}
use borrow.Author.Tests.{le-leb, leb-true, lt-leb}
use Rattle.room.specs.Refusal.Laws.{test_passed, test_refused, passed_test}
use Rattle.syntax.specs.Shape.{line_limit}
use Rattle.serial_port.specs.Refusal.{claim_number, reply_number}

module _ (least reply_room : ℕ) where
  pub reply_passed : least ≤ reply_room → reply_number least reply_room ≡ 0
  unfolding reply_number
  reply_passed h = test_passed (leb least reply_room) 3 (le-leb least reply_room h)

  pub reply_refused : reply_room < least → reply_number least reply_room ≡ 3
  unfolding reply_number
  reply_refused h = test_refused (leb least reply_room) 3 (lt-leb least reply_room h)

  pub passed_reply : reply_number least reply_room ≡ 0 → least ≤ reply_room
  unfolding reply_number
  passed_reply e = leb-true least reply_room (passed_test (leb least reply_room) 2 e)

module _ (claimed : ℕ) where
  pub claim-passed : claimed ≤ line_limit → claim_number claimed ≡ 0
  unfolding claim_number
  claim-passed h = test_passed (leb claimed line_limit) 4 (le-leb claimed line_limit h)

  pub claim-refused : line_limit < claimed → claim_number claimed ≡ 4
  unfolding claim_number
  claim-refused h = test_refused (leb claimed line_limit) 4 (lt-leb claimed line_limit h)

  pub passed_claim : claim_number claimed ≡ 0 → claimed ≤ line_limit
  unfolding claim_number
  passed_claim e = leb-true claimed line_limit (passed_test (leb claimed line_limit) 3 e)

-- ---- the number that code tells, by the test that it made

pub tells-short : (least reply_room : ℕ) → reply_room < least → 3 ≡ reply_number least reply_room
tells-short least reply_room h = sym (reply_refused least reply_room h)

pub tells-room : (least reply_room : ℕ) → least ≤ reply_room → 0 ≡ reply_number least reply_room
tells-room least reply_room h = sym (reply_passed least reply_room h)

pub tells-over : (claimed : ℕ) → 64 < claimed → 4 ≡ claim_number claimed
unfolding line_limit
tells-over claimed h = sym (claim-refused claimed h)

pub tells-held : (claimed : ℕ) → claimed ≤ 64 → 0 ≡ claim_number claimed
unfolding line_limit
tells-held claimed h = sym (claim-passed claimed h)

pub ruleset numbering = (tells-short, tells-room, tells-over, tells-held)
