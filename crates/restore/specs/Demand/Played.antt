-- Playing the restore list: it is a byte sequence, each of its lines gets an ACK, and its changes are made.
use Rattle.std.specs.Prelude.{◌≡◌, true, List, [], ◌∷◌, ℤ, length, set, None}
use Rattle.std.proofs.Common.{arith}
use Rattle.text.specs.Byte.{is_byte}
use Rattle.text.specs.Byte.Laws.{is_byte_lem}
use Rattle.text.specs.Every.{every}
use Rattle.text.specs.Every.Laws.{every_append, every_more, every-nil}
use Rattle.values.specs.Parameters.{place}
use Rattle.spelling.specs.Acknowledgement.{ack}
use Rattle.spelling.specs.Say.{say}
use Rattle.values.specs.Room.{Room}
use Rattle.serial_port.specs.Server.{control_space}
use Rattle.serial_port.specs.Server.Laws.{line_served}
use Rattle.serial_port.specs.Port.{fresh}
use Rattle.serial_port.specs.Play.{feed}
use Rattle.serial_port.specs.Play.Acknowledged.{acknowledged, line_acknowledged, none_acknowledged}
use Rattle.wish.specs.Listing.{Change, listing}
use Rattle.wish.proofs.Laws.Listing.Differing.{AllOf, Finds, made}
use Rattle.wish.specs.Listing.Laws.{listing-first, listing_none}
use Rattle.wish.proofs.Laws.Listing.Reach.{Sayable}
use Rattle.restore.specs.Demand.Lines.{Lines, Said}

module _ (r : Room) (lines : Lines r) where
  saying : (c : Change) → Sayable r c → Said r c.parameter c.present c.target (say r.table c.parameter c.present c.target)
  saying c s = lines.says c.parameter c.present c.target s.puttable.reached s.from s.puttable.permits

  pub listing-bytes : (cs : List Change) → AllOf (Sayable r) cs → every is_byte (listing r.table cs) ≡ true
  listing-bytes [] s = rw (listing_none r.table) (every-nil is_byte)
  listing-bytes (c ∷ cs) s =
      rw (listing-first r.table c cs)
      (every_append is_byte (say r.table c.parameter c.present c.target) (0x0D ∷ listing r.table cs) (saying c s.0).bytes
      (every_more is_byte 0x0D (listing r.table cs) (is_byte_lem 0x0D (omega arith)) (listing-bytes cs s.1)))

  pub play-listing : (cs : List Change) (vs : List ℤ) → AllOf (Sayable r) cs → Finds cs vs
      → feed (control_space r) fresh vs (listing r.table cs) ≡ acknowledged (length cs) (made cs vs)
  play-listing [] vs s f = rw (listing_none r.table) (none_acknowledged (control_space r) vs)
  play-listing (c ∷ cs) vs s f =
      let said = saying c s.0 in
      let after = set vs (place c.parameter) c.target in
      let line = say r.table c.parameter c.present c.target in
      rw (listing-first r.table c cs)
      (line_acknowledged (control_space r) vs after (made cs after) line (listing r.table cs) (length cs)
      said.fits said.whole (line_served r vs line ack None after (said.answered vs f.0)) (play-listing cs after s.1 f.1))
