-- What a step of filling a buffer, or of writing bytes, does to bytes that are known.
use Rattle.std.proofs.Common.{◌≡◌, ℕ, ◌+◌, ◌-◌, ◌<◌, ◌≤◌, List, ◌++◌, length, take, drop, Option, sym, ap, ◌∙◌, subst, arith, append_assoc, length-append, take-append-drop, length-take-le}
use Rattle.std.proofs.lemmas.List.{take-append-le, take_at, take_rest}
use Rattle.std.proofs.Math.Seq.{take-append-add}
use Rattle.std.proofs.KnownBytes.{Consumes-trans, Appends-kept}
use Rattle.std.specs.Io.KnownBytes.{Consumes, Appends, Keeps}
use Rattle.byte_streams.specs.Streams.{AppendsPart}
use borrow.Rule.Slice.PartMut.{put_mid, post_of}

-- the front of a buffer, where a part behind its first bytes was written over
take-put_mid_more : (i n k : ℕ) (xs ys : List ℕ) → i ≤ length xs → k ≤ length ys → take (i + k) (put_mid i n xs ys) ≡ take i xs ++ take k ys
take-put_mid_more i n k xs ys fits within =
    let front = take i xs in
    let behind = ys ++ post_of i n xs in
    ap (λ m. take (m + k) (front ++ behind)) (sym (length-take-le i xs fits)) ∙ take-append-add front behind k ∙ ap (λ t. front ++ t) (take-append-le k ys (post_of i n xs) within)

-- bytes read to the front of a buffer, and then more of them behind those
pub filled_more : (a b c : Option (List ℕ)) (i n k : ℕ) (xs ys : List ℕ) → i ≤ length xs → k ≤ length ys → Consumes a b (take i xs) → Consumes b c (take k ys) → Consumes a c (take (i + k) (put_mid i n xs ys))
filled_more a b c i n k xs ys fits within first second =
    subst (Consumes a c) (sym (take-put_mid_more i n k xs ys fits within)) (Consumes-trans a b c (take i xs) (take k ys) first second)

-- what was written and what is left to write are still all bytes
pub moves_front : (all done rest : List ℕ) (n : ℕ) → all ≡ done ++ rest → all ≡ (done ++ take n rest) ++ take (length rest - n) (drop n rest)
moves_front all done rest n e =
    e ∙ ap (λ l. done ++ l) (sym (take-append-drop n rest)) ∙ sym (append_assoc done (take n rest) (drop n rest)) ∙ ap (λ l. (done ++ take n rest) ++ l) (sym (take_rest rest n))

-- a failed write wrote nothing, so what is written is a proper part
pub part_written : (a b c : Option (List ℕ)) (all done rest : List ℕ) → all ≡ done ++ rest → 0 < length rest → Appends a b done → Keeps b c → AppendsPart a c all
part_written a b c all done rest split some appended kept =
    let front : take (length done) all ≡ done = ap (take (length done)) split ∙ take_at done rest (length done) (λ i. length done) in
    record {
      written = length done;
      fewer = omega (arith, ap length split, length-append done rest, some);
      appended = subst (Appends a c) (sym front) (Appends-kept a b c done appended kept);
    }
