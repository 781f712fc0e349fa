-- The frames of a message that goes out: what each says, how long it is, its counter, and what opening it gives.
use Rattle.std.proofs.Common.{◌≡◌, ℕ, zero, suc, ◌+◌, ◌-◌, ◌*◌, ◌<◌, ◌≤◌, min, ◌∷◌, map, length, take, drop, Some, Ok, refl, ap, ◌∙◌, arith}
use Rattle.std.specs.List.{range_with_len}
use Rattle.std.proofs.lemmas.List.{length-append, length-take, length-drop, take_at, drop_at}
use Rattle.octets.specs.Octets.{Octets, AreOctets}
use Rattle.frame.specs.Headers.{header_length, header_octets, fields_in}
use Rattle.frame.proofs.Reading.{AreOctets_header, length_header, fields_back}
use Rattle.suite.specs.Meaning.{Meaning, longest_piece}
use Rattle.suite.specs.Laws.{OctetsOf, Sealable, Openable, Keeps}
use Rattle.ends.specs.declared.requests.Plan.{Plan}
use Rattle.ends.specs.Sends.{header_of, piece_of, frame_of, room, joined}
use Rattle.laws.specs.Words.{counter_read, counter_in}
use Rattle.laws.proofs.Pieces.{Piece, piece_fits}

-- a plan, the key and the octets that are cut, such that all of the frames can be made
pub record Outgoing (M : Meaning) (p : Plan) (key octets : Octets) : Type 0 where
  pub key_fits : OctetsOf M.sizes.key key
  pub id_fits : p.key_id ≤ 3
  pub sequence_small : p.sequence < 4096
  pub address1_fits : OctetsOf 6 p.address1.octets
  pub address2_fits : OctetsOf 6 p.address2.octets
  pub address3_fits : OctetsOf 6 p.address3.octets
  pub octets_fit : AreOctets octets
  pub wide : 1 ≤ p.piece_length
  pub narrow : p.piece_length ≤ longest_piece
  pub enough : length octets ≤ p.count * p.piece_length
  pub needed : p.count * p.piece_length < length octets + p.piece_length
  pub some : 1 ≤ p.count
  pub few : p.count ≤ 16
  pub from_one : 1 ≤ p.counter
  pub upto_top : p.counter + p.count ≤ M.sizes.top + 1

module _ (M : Meaning) (keeps : Keeps M) (p : Plan) (key octets : Octets) (out : Outgoing M p key octets) where
  -- frame i
  module _ (i : ℕ) (h : i < p.count) where
    its_piece : Piece (piece_of p octets i)
    its_piece =
        piece_fits octets p.piece_length i p.count h out.needed out.narrow out.wide out.octets_fit

    header_fits : OctetsOf header_length (header_octets (header_of p i))
    header_fits =
        record { long = length_header (header_of p i) out.address1_fits.long out.address2_fits.long out.address3_fits.long; octets = AreOctets_header (header_of p i) out.address1_fits.octets out.address2_fits.octets out.address3_fits.octets }

    sealable : Sealable M key (header_octets (header_of p i)) p.key_id (p.counter + i) (piece_of p octets i)
    sealable =
        record { key_fits = out.key_fits; header_fits = header_fits; id_fits = out.id_fits; counter_fits = omega arith; some = its_piece.some; most = its_piece.most; piece_fits = its_piece.octets }

    pub read_back : fields_in (frame_of M p key octets i) ≡ header_of p i
    read_back =
        fields_back (header_of p i) out.address1_fits.long out.address2_fits.long out.address3_fits.long _ out.sequence_small (omega arith)

    front : take header_length (frame_of M p key octets i) ≡ header_octets (header_of p i)
    front = take_at (header_octets (header_of p i)) _ header_length header_fits.long

    body : drop header_length (frame_of M p key octets i) ≡ M.seal key (header_octets (header_of p i)) p.key_id (p.counter + i) (piece_of p octets i)
    body = drop_at (header_octets (header_of p i)) _ header_length header_fits.long

    pub length_frame : length (frame_of M p key octets i) ≡ header_length + (M.sizes.head + length (piece_of p octets i) + M.sizes.tail)
    length_frame =
        length-append (header_octets (header_of p i)) _ ∙ (λ j. header_fits.long j + keeps.seal_length key (header_octets (header_of p i)) p.key_id (p.counter + i) (piece_of p octets i) sealable j)

    pub frame_bounds : (header_length ≤ length (frame_of M p key octets i)) × (length (frame_of M p key octets i) ≤ 2352)
    frame_bounds =
        let long = length_frame in
        let head : M.sizes.head ≤ 8 = keeps.bounded.head_most in
        let tail : M.sizes.tail ≤ 8 = keeps.bounded.tail_most in
        let most : length (piece_of p octets i) ≤ longest_piece = its_piece.most in
        (omega arith, omega arith)

    sealed_reads : M.head (M.seal key (header_octets (header_of p i)) p.key_id (p.counter + i) (piece_of p octets i)) ≡ Ok (p.counter + i, p.key_id)
    sealed_reads =
        let low : 1 ≤ p.counter = out.from_one in
        keeps.head_of_sealed key (header_octets (header_of p i)) p.key_id (p.counter + i) (piece_of p octets i) sealable (omega arith)

    pub head_reads : M.head (drop header_length (frame_of M p key octets i)) ≡ Ok (p.counter + i, p.key_id)
    head_reads = ap M.head body ∙ sealed_reads

    pub counter_reads : counter_in M (frame_of M p key octets i) ≡ Some (p.counter + i)
    counter_reads = ap counter_read head_reads

    pub opens_again : M.opens key (take header_length (frame_of M p key octets i)) (drop header_length (frame_of M p key octets i)) ≡ Ok (piece_of p octets i)
    opens_again =
        let header = header_octets (header_of p i) in
        let sealed = M.seal key header p.key_id (p.counter + i) (piece_of p octets i) in
        let able : Openable M key header sealed p.key_id (p.counter + i) = record { key_fits = out.key_fits; header_fits = header_fits; body_fits = keeps.seal_octets key header p.key_id (p.counter + i) (piece_of p octets i) sealable; accepted = sealed_reads } in
        (λ j. M.opens key (front j) (body j)) ∙ keeps.opens_sealed key header sealed (piece_of p octets i) p.key_id (p.counter + i) able sealable refl

  -- the counters of n frames, from the i-th on
  pub counters_read : (i n : ℕ) → i + n ≤ p.count → map (counter_in M) (map (frame_of M p key octets) (range_with_len i n)) ≡ map Some (range_with_len (p.counter + i) n)
  counters_read i zero h = refl
  counters_read i (suc n) h =
      let next : p.counter + (i + 1) ≡ p.counter + i + 1 = omega arith in
      λ j. counter_reads i (omega arith) j ∷ (counters_read (i + 1) n (omega arith) ∙ ap (λ c. map Some (range_with_len c n)) next) j

  -- all frames together are as long as the room that is asked for them
  room_from : (i n : ℕ) → i + n ≡ p.count → length (joined (map (frame_of M p key octets) (range_with_len i n))) ≡ n * (header_length + M.sizes.head + M.sizes.tail) + (length octets - i * p.piece_length)
  room_from i zero h =
      let whole : length octets ≤ p.count * p.piece_length = out.enough in
      let last : i * p.piece_length ≡ p.count * p.piece_length = ap (λ k. k * p.piece_length) (omega arith) in
      omega arith
  room_from i (suc n) h =
      let frame = frame_of M p key octets i in
      let rest = joined (map (frame_of M p key octets) (range_with_len (i + 1) n)) in
      let piece : length (piece_of p octets i) ≡ min p.piece_length (length octets - i * p.piece_length) = simp (length-take, length-drop) in
      let next : (i + 1) * p.piece_length ≡ i * p.piece_length + p.piece_length = omega arith in
      let here = length_frame i (omega arith) in
      let more = room_from (i + 1) n (omega arith) in
      let each : suc n * (header_length + M.sizes.head + M.sizes.tail) ≡ n * (header_length + M.sizes.head + M.sizes.tail) + (header_length + M.sizes.head + M.sizes.tail) = omega arith in
      length-append frame rest ∙ omega arith

  pub room_is : length (joined (map (frame_of M p key octets) (range_with_len 0 p.count))) ≡ room M.sizes p.count (length octets)
  room_is = room_from 0 p.count (omega arith) ∙ omega arith
