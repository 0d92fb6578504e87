-- Lines that are acknowledged, one after the other: an ACK for each, and a fresh port at the end.
use Rattle.std.specs.Prelude.{◌≡◌, false, List, [], ◌∷◌, ◌++◌, ℕ, suc, ◌≤◌, length, replicate, None}
use Rattle.std.proofs.Math.Path.{refl}
use Rattle.std.proofs.Common.{◌∙◌}
use Rattle.text.specs.Cut.{has}
use Rattle.syntax.specs.Shape.{line_limit}
use Rattle.spelling.specs.Acknowledgement.{ack}
use Rattle.serial_port.specs.Port.{fresh}
use Rattle.serial_port.specs.Server.{Server}
use Rattle.serial_port.specs.Play.{Played, ended, reply_first, feed}
use Rattle.serial_port.specs.Play.Feed.{finished, feed-line, feed-nothing}

-- the end of a play of so many lines, each of which was acknowledged
abbrev pub acknowledged : {S : Type 0} → (count : ℕ) → S → Played S
acknowledged count s = record { replies = replicate count ack; state = s; port = fresh; refused = false }

module _ {S : Type 0} (server : Server S) where
  pub none_acknowledged : (s : S) → feed server fresh s [] ≡ acknowledged 0 s
  unfolding ended
  none_acknowledged s = feed-nothing server fresh s

  -- a line that is acknowledged, before others
  pub line_acknowledged : (s after last : S) (l rest : List ℕ) (count : ℕ) → length l ≤ line_limit → has 0x0D l ≡ false
      → server.line s l ≡ record { reply = ack; fault = None; state = after } → feed server fresh after rest ≡ acknowledged count last
      → feed server fresh s (l ++ 0x0D ∷ rest) ≡ acknowledged (suc count) last
  unfolding finished reply_first
  line_acknowledged s after last l rest count k h a e = feed-line server s l rest k h ∙ rw (a, e) refl
