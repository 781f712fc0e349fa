-- How long the frames of a message are.
use Rattle.std.proofs.Common.{◌≡◌, ℕ, ◌+◌, ◌≤◌, Bool, true, false, cond, [], ◌∷◌, map, length, drop, ap, ◌∙◌, arith}
use Rattle.std.specs.List.{range_with_len}
use Rattle.std.proofs.lemmas.List.{length-append, length-take, length-drop}
use Rattle.octets.specs.Octets.{Octets}
use Rattle.frame.specs.Headers.{header_octets}
use Rattle.frame.specs.declared.addresses.Address.{Address}
use Rattle.frame.specs.declared.headers.Header.{Header}
use Rattle.suite.specs.Meaning.{Meaning}
use Rattle.suite.specs.declared.sizes.Direction.{Direction}
use Rattle.ends.specs.declared.places.Place.{Place}
use Rattle.ends.specs.declared.roles.Role.{Role}
use Rattle.ends.specs.declared.roles.Role.TheVariants.{Base, Logger}
use Rattle.ends.specs.declared.requests.Plan.{Plan}
use Rattle.ends.specs.declared.requests.Request.{Request}
use Rattle.ends.specs.Holding.{Filling, End, key_for}
use Rattle.ends.specs.Places.{is_group_place}
use Rattle.ends.specs.Sends.{direction_from, header_of, piece_of, frame_of, frames_by, coded, pieces, destination_of, source_of, address1_of, address3_of, plan_of, spans}
use Rattle.figures.specs.Figures.{IndexOf100At64, request, span}

header_long : (h : Header) → length h.address1.octets ≡ 6 → length h.address2.octets ≡ 6 → length h.address3.octets ≡ 6 → length (header_octets h) ≡ 24
header_long h one two three =
    let a = h.address1.octets in
    let b = h.address2.octets in
    let c = h.address3.octets in
    simp (length-append) (omega arith)

-- either of two addresses
one_or_other : (b : Bool) (x y : Address) → length x.octets ≡ 6 → length y.octets ≡ 6 → length (cond b x y).octets ≡ 6
one_or_other true x y h k = h
one_or_other false x y h k = k

-- whichever role an end has, the three addresses of its frames are among those that it knows or is given
module _ (e : End) (f : Filling) (place : Place) (q : Request) (own : length e.own.octets ≡ 6) (held : length f.address.octets ≡ 6) (to : length q.destination.octets ≡ 6) (from : length q.source.octets ≡ 6) where
  first_long : (role : Role) → length (address1_of role (destination_of role place q f) f).octets ≡ 6
  first_long Base = one_or_other (is_group_place place) q.destination f.address to held
  first_long Logger = held

  third-long : (role : Role) → length (address3_of role (destination_of role place q f) (source_of role e.own q)).octets ≡ 6
  third-long Base = from
  third-long Logger = to

two_frames : (a b : Octets) (m n : ℕ) → length a ≡ m → length b ≡ n → spans 0 (a ∷ b ∷ []) ≡ span 0 m ∷ span m n ∷ []
two_frames a b m n e f =
    let next : 0 + length a ≡ m = omega arith in
    λ i. span 0 (e i) ∷ span (next i) (f i) ∷ []

-- a suite whose lengths hold of all lists, and a plan whose addresses have six octets
module _ (M : Meaning) (code-long : (key : Octets) (direction : Direction) (destination source : Address) (priority : ℕ) (message : Octets) → length (M.code key direction destination source priority message) ≡ M.sizes.code) (seal-long : (key header : Octets) (id counter : ℕ) (piece : Octets) → length (M.seal key header id counter piece) ≡ M.sizes.head + length piece + M.sizes.tail) where
  frame_long : (p : Plan) (key octets : Octets) (i n : ℕ) → length (header_octets (header_of p i)) ≡ 24 → length (piece_of p octets i) ≡ n → length (frame_of M p key octets i) ≡ 24 + (M.sizes.head + n + M.sizes.tail)
  frame_long p key octets i n header piece =
      let sealed = seal-long key (header_octets (header_of p i)) p.key_id (p.counter + i) (piece_of p octets i) in
      length-append (header_octets (header_of p i)) (M.seal key (header_octets (header_of p i)) p.key_id (p.counter + i) (piece_of p octets i)) ∙ omega arith

  pub index_of_100_at_64 : (m n : ℕ) → M.sizes.code ≤ 28 → pieces (100 + M.sizes.code) 64 ≡ 2 → 24 + (M.sizes.head + 64 + M.sizes.tail) ≡ m → 24 + (M.sizes.head + (36 + M.sizes.code) + M.sizes.tail) ≡ n → IndexOf100At64 M (span 0 m ∷ span m n ∷ [])
  unfolding frames_by
  index_of_100_at_64 m n short two first second e f place destination source time message hundred own held to from =
      let q = request place destination source 64 time in
      let p = plan_of M.sizes e q 100 f in
      let key = key_for M f in
      let octets = coded M p key message in
      let code = M.code key (direction_from p.role) p.destination p.source 0 message in
      let size : length octets ≡ 100 + M.sizes.code = length-append message code ∙ omega (arith, code-long key (direction_from p.role) p.destination p.source 0 message) in
      let header : (i : ℕ) → length (header_octets (header_of p i)) ≡ 24 = λ i. header_long (header_of p i) (first_long e f place q own held to from e.role) own (third-long e f place q own held to from e.role) in
      let whole : length (piece_of p octets 0) ≡ 64 = length-take 64 (drop 0 octets) ∙ omega arith in
      let rest : length (piece_of p octets 1) ≡ 36 + M.sizes.code = length-take 64 (drop 64 octets) ∙ omega (arith, length-drop 64 octets) in
      ap (λ k. spans 0 (map (frame_of M p key octets) (range_with_len 0 k))) two
      ∙ two_frames (frame_of M p key octets 0) (frame_of M p key octets 1) m n (frame_long p key octets 0 64 (header 0) whole ∙ first) (frame_long p key octets 1 (36 + M.sizes.code) (header 1) rest ∙ second)
