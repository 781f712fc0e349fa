-- Frames as they are laid into memory.
use Rattle.std.proofs.Common.{◌≡◌, ℕ, suc, ◌+◌, ◌-◌, ◌*◌, ◌<◌, ◌≤◌, min, List, [], ◌∷◌, ◌++◌, map, length, get_or, take, drop, set, sym, refl, ap, ◌∙◌, mul-le-mul_right, add-mul, one-mul, arith}
use borrow.Rule.Slice.PartMut.{put_mid}
use Rattle.std.specs.List.{range_with_len}
use Rattle.std.proofs.lemmas.List.FromFn.{map-range_with_len_more, length-map-range_with_len}
use Rattle.std.proofs.lemmas.List.{append_assoc, append-nil, drop_more, drop_all, length-append, length-take, length_push, set_at}
use Rattle.octets.specs.Octets.{Octets, part, written, begins}
use Rattle.octets.proofs.Writing.{written_after, written_start, length-begins}
use Rattle.frame.specs.Headers.{header_length, header_octets}
use Rattle.suite.specs.Meaning.{Meaning}
use Rattle.ends.specs.declared.requests.Plan.{Plan}
use Rattle.ends.specs.declared.requests.Span.{Span}
use Rattle.ends.specs.Sends.{header_of, piece_of, frame_of, joined, spans}
use Rattle.sending.proofs.Cutting.{length-piece}
use Rattle.ends.specs.Steps.{rows_begin}

-- frame i from its header and its piece
module _ (M : Meaning) (p : Plan) (key octets : Octets) (i : ℕ) (header piece : Octets) (is-header : header ≡ header_octets (header_of p i)) (is-piece : piece ≡ piece_of p octets i) (long : length header ≡ header_length) where
  is_frame : header ++ M.seal key header p.key_id (p.counter + i) piece ≡ frame_of M p key octets i
  is_frame = λ j. is-header j ++ M.seal key (is-header j) p.key_id (p.counter + i) (is-piece j)

  -- its header first, and then the sealed piece behind it
  pub frame_laid : (old one rest : Octets) → one ≡ written 0 header old → rest ≡ begins (M.seal key header p.key_id (p.counter + i) piece) (take (length one - header_length) (drop header_length one)) → put_mid header_length (length one - header_length) one rest ≡ begins (frame_of M p key octets i) old
  frame_laid old one rest first next =
      written_after header_length header (M.seal key header p.key_id (p.counter + i) piece) old one rest long first next ∙ ap (λ f. begins f old) is_frame

-- the frames one after the other

pub joined_push : (xs : List Octets) (x : Octets) → joined (xs ++ (x ∷ [])) ≡ joined xs ++ x
joined_push [] x = append-nil x
joined_push (y ∷ ys) x = ap (λ t. y ++ t) (joined_push ys x) ∙ sym (append_assoc y (joined ys) x)

abbrev pub span : ℕ → ℕ → Span
span offset size = record { offset = offset; length = size }

pub spans_push : (at : ℕ) (xs : List Octets) (x : Octets) → spans at (xs ++ (x ∷ [])) ≡ spans at xs ++ (span (at + length (joined xs)) (length x) ∷ [])
spans_push at [] x = ap (λ n. span n (length x) ∷ []) (omega arith)
spans_push at (y ∷ ys) x =
    let far : at + length y + length (joined ys) ≡ at + length (y ++ joined ys) = omega (arith, length-append y (joined ys)) in
    ap (λ t. span at (length y) ∷ t) (spans_push (at + length y) ys x ∙ ap (λ n. spans (at + length y) ys ++ (span n (length x) ∷ [])) far)

pub length-spans : (at : ℕ) (xs : List Octets) → length (spans at xs) ≡ length xs
length-spans at [] = refl
length-spans at (y ∷ ys) = ap suc (length-spans (at + length y) ys)

-- one element more behind those that begin a list
begins-set : (xs old : List Span) (y : Span) (i : ℕ) → length xs ≡ i → i < length old → set (rows_begin xs old) i y ≡ rows_begin (xs ++ (y ∷ [])) old
begins-set xs old y i long inside =
    let rest : drop (length xs) old ≡ get_or old (length xs) y ∷ drop (length xs + 1) old = drop_more old (length xs) y (omega arith) in
    ap (λ t. set (xs ++ t) i y) rest
    ∙ set_at xs (get_or old (length xs) y) (drop (length xs + 1) old) y i long
    ∙ sym (append_assoc xs (y ∷ []) (drop (length xs + 1) old))
    ∙ ap (λ n. (xs ++ (y ∷ [])) ++ drop n old) (sym (length_push xs y))

-- a row for each of n frames, and what is left alone behind them
pub rows_whole : (f : ℕ → Octets) (i n : ℕ) (old rows : List Span) → i ≡ n → n ≤ length old → rows ≡ rows_begin (spans 0 (map f (range_with_len 0 i))) (take n old) → rows ++ drop n old ≡ rows_begin (spans 0 (map f (range_with_len 0 n))) old
rows_whole f i n old rows all enough is =
    let xs = spans 0 (map f (range_with_len 0 n)) in
    let long : length xs ≡ n = length-spans 0 (map f (range_with_len 0 n)) ∙ length-map-range_with_len f 0 n in
    let none : drop (length xs) (take n old) ≡ [] = drop_all (length xs) (take n old) (omega (arith, length-take n old)) in
    let whole : rows ≡ xs = is ∙ ap (λ j. rows_begin (spans 0 (map f (range_with_len 0 j))) (take n old)) all ∙ ap (λ t. xs ++ t) none ∙ append-nil xs in
    ap (λ t. t ++ drop n old) whole ∙ ap (λ k. xs ++ drop k old) (sym long)

-- what is laid before turn i: the first i of the frames that f numbers. What they take is known without looking into
-- them, from what each has beside its piece (k) and from the length of the pieces (m).
pub record Laid (f : ℕ → Octets) (k m size : ℕ) (old : Octets) (old-index : List Span) (i offset : ℕ) (memory : Octets) (index : List Span) : Type 0 where
  pub far : offset ≡ length (joined (map f (range_with_len 0 i)))
  pub reckoned : offset ≡ i * k + min (i * m) size
  pub frames : memory ≡ begins (joined (map f (range_with_len 0 i))) old
  pub places : index ≡ rows_begin (spans 0 (map f (range_with_len 0 i))) old-index

-- and that there is room for frame i, if it is one of n
pub record Written (f : ℕ → Octets) (k m n : ℕ) (octets old : Octets) (old-index : List Span) (i offset : ℕ) (memory : Octets) (index : List Span) : Type 0 where
  pub laid : Laid f k m (length octets) old old-index i offset memory index
  pub next_fits : i < n → offset + (k + length (part (i * m) m octets)) ≤ length memory

-- what the next frame takes
next_takes : (i k m size : ℕ) → i * k + min (i * m) size + (k + min m (size - i * m)) ≡ (i + 1) * k + min ((i + 1) * m) size
next_takes i k m size =
    let a = add-mul i 1 k in
    let b = add-mul i 1 m in
    let c = one-mul k in
    let d = one-mul m in
    omega arith

module _ (f : ℕ → Octets) (k m n : ℕ) (octets old : Octets) (old-index : List Span) (room : n * k + length octets ≤ length old) where
  with_room : (i offset : ℕ) (memory : Octets) (index : List Span) → Laid f k m (length octets) old old-index i offset memory index → Written f k m n octets old old-index i offset memory index
  with_room i offset memory index w = record { laid = w; next_fits = fits }
    where
      fits : i < n → offset + (k + length (part (i * m) m octets)) ≤ length memory
      fits more =
          let size = length-piece octets (i * m) m in
          let next = next_takes i k m (length octets) in
          let up : i + 1 ≤ n = omega arith in
          let all = mul-le-mul_right k up in
          let done : length (joined (map f (range_with_len 0 i))) ≤ length old = omega (arith, w.far, w.reckoned) in
          let same = ap length w.frames ∙ length-begins (joined (map f (range_with_len 0 i))) old done in
          omega (arith, w.far, w.reckoned)

  pub none_written : Written f k m n octets old old-index 0 0 old old-index
  none_written = with_room 0 0 old old-index (record { far = refl; reckoned = omega arith; frames = refl; places = refl })

  -- frame i laid behind the others
  pub one_more : (i offset : ℕ) (memory : Octets) (index : List Span) → Written f k m n octets old old-index i offset memory index → i < length old-index → (size : ℕ) (out : Octets) → size ≡ length (f i) → size ≡ k + length (part (i * m) m octets) → out ≡ begins (f i) (take (length memory - offset) (drop offset memory)) → Written f k m n octets old old-index (i + 1) (offset + size) (put_mid offset (length memory - offset) memory out) (set index i (span offset size))
  one_more i offset memory index written enough size out is reckons laid =
      let w = written.laid in
      let before = map f (range_with_len 0 i) in
      let more-frames = map-range_with_len_more f 0 i i (omega arith) in
      let next : joined (map f (range_with_len 0 (i + 1))) ≡ joined before ++ f i = ap joined more-frames ∙ joined_push before (f i) in
      let far = ap length next ∙ length-append (joined before) (f i) in
      let takes = next_takes i k m (length octets) in
      let piece = length-piece octets (i * m) m in
      let row : spans 0 (map f (range_with_len 0 (i + 1))) ≡ spans 0 before ++ (span offset size ∷ []) = ap (spans 0) more-frames
      ∙ spans_push 0 before (f i)
      ∙ ap (λ o. spans 0 before ++ (span o (length (f i)) ∷ [])) (omega (arith, w.far))
      ∙ ap (λ l. spans 0 before ++ (span offset l ∷ [])) (sym is) in
      let count = length-spans 0 before ∙ length-map-range_with_len f 0 i in
      with_room (i + 1) (offset + size) (put_mid offset (length memory - offset) memory out) (set index i (span offset size))
      (record {
        far = omega (arith, w.far);
        reckoned = omega (arith, w.reckoned);
        frames = written_after offset (joined before) (f i) old memory out (sym w.far) (w.frames ∙ sym (written_start (joined before) old)) laid ∙ ap (λ l. begins l old) (sym next);
        places =
            ap (λ t. set t i (span offset size)) w.places
            ∙ begins-set (spans 0 before) old-index (span offset size) i count enough
            ∙ ap (λ t. rows_begin t old-index) (sym row);
      })
