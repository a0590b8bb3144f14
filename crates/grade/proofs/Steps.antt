-- Steps of reading an input and answering its lines.
use Rattle.std.proofs.Common.{◌≡◌, ℕ, ◌+◌, ◌<◌, ◌≤◌, true, false, List, [], ◌∷◌, ◌++◌, length, take, Some, None, Ok, Err, Option, Result, IfSome, sym, ap, ◌∙◌, subst, arith, append_assoc, length-append, length-take-le}
use Rattle.std.proofs.KnownBytes.{Consumes-nil, Consumes-trans, Consumes-kept, Consumes-whole, Appends-nil, Appends-trans}
use Rattle.std.proofs.Math.Seq.{take-append-add}
use Rattle.std.proofs.lemmas.List.{append-nil, take-append-le}
use Rattle.std.specs.Io.KnownBytes.{Appends, Consumes, Keeps, IsAtEnd}
use Rattle.std.specs.List.{flat_map}
use Rattle.std.specs.declared.io.Error.{Error}
use Rattle.byte_streams.specs.Streams.{AppendsPart, WritesAll}
use Rattle.byte_streams.specs.declared.error.StreamError.{StreamError}
use Rattle.byte_streams.specs.declared.error.StreamError.TheVariants.{Reading, OutOfMemory, Writing}
use Rattle.grade.specs.Inputs.{IsInputAfter, Answering, AnswersMore}
use Rattle.grade.specs.Lines.{is_word}
use Rattle.grade.specs.Streams.{AnswersEnded, LeavesUnanswered, Fails, Grades, answers_of, line_text, without_mark}
use Rattle.grade.specs.declared.input.Input.{Input}
use Rattle.grade.proofs.Answered.{answers_by_parts, answers_of_none, last_line}

-- nothing was read
pub keeps_none : (a b : Option (List ℕ)) (n : ℕ) (xs : List ℕ) → n ≡ 0 → Consumes a b (take n xs) → Keeps a b
keeps_none None b n xs e p = tt
keeps_none (Some us) None n xs e p = absurd p
keeps_none (Some us) (Some bs) n xs e p = sym (p ∙ ap (λ m. take m xs ++ bs) e)

-- some bytes were written, and then a part of more, which are not the last of all
part_more : (first sink sink' : Option (List ℕ)) (out page whole tail : List ℕ) → whole ≡ (out ++ page) ++ tail → Appends first sink out → AppendsPart sink sink' page → AppendsPart first sink' whole
part_more first sink sink' out page whole tail e a p =
    let split : whole ≡ out ++ (page ++ tail) = e ∙ append_assoc out page tail in
    let front : out ++ take p.written page ≡ take (length out + p.written) whole =
    ap (λ xs. out ++ xs) (sym (take-append-le p.written page tail (omega (arith, p.fewer))))
    ∙ sym (take-append-add out (page ++ tail) p.written)
    ∙ ap (take (length out + p.written)) (sym split) in
    record {
      written = length out + p.written;
      fewer = omega (arith, ap length e, length-append (out ++ page) tail, length-append out page, p.fewer);
      appended = subst (Appends first sink') front (Appends-trans first sink sink' out (take p.written page) a p.appended);
    }

some_more : (xs ys : List ℕ) → 0 < length ys → 0 < length (xs ++ ys)
some_more xs ys h = omega (arith, length-append xs ys, h)

some_bytes : (current : List ℕ) → is_word current ≡ true → 0 < length (current ++ [])
some_bytes [] e = absurd cc
some_bytes (b ∷ current) e = omega arith

module _ (source middle first sink : Option (List ℕ)) (input : Input) (a : Answering source middle first sink input) where
  -- the lines that ended were answered, and more bytes were read
  ended_before : (source' : Option (List ℕ)) (more : List ℕ) → Consumes source source' (a.read ++ more) → AnswersEnded source source' first sink more
  ended_before source' more consumed = record {
    read = a.read;
    ended = a.kept.typed.ended;
    begun = a.kept.typed.current;
    lines = a.kept.typed.split;
    consumed = consumed;
    answered = subst (Appends first sink) a.kept.typed.out_is a.answered;
  }

  -- a source that returned an error
  pub ended_at_error : (source' : Option (List ℕ)) → Keeps middle source' → AnswersEnded source source' first sink []
  ended_at_error source' kept = ended_before source' [] (subst (Consumes source source') (sym (append-nil a.read)) (Consumes-kept source middle source' a.read a.consumed kept))

  -- a read that changed nothing
  pub still : (source' : Option (List ℕ)) → Keeps middle source' → Answering source source' first sink input
  still source' kept = record { read = a.read; out = a.out; consumed = Consumes-kept source middle source' a.read a.consumed kept; answered = a.answered; kept = a.kept }

  -- no memory for the answers of bytes that were read
  pub left_over : (source' : Option (List ℕ)) (more : List ℕ) → Consumes middle source' more → 0 < length more → LeavesUnanswered source source' first sink
  unfolding ended_before
  left_over source' more consumed some = record {
    more = more;
    before = ended_before source' more (Consumes-trans source middle source' a.read more a.consumed consumed);
    some = some_more a.kept.typed.current more some;
  }

  -- some bytes more
  pub bytes_answered : (writes : Error → Type 0) (source' sink' : Option (List ℕ)) (new : Input) (bytes page : List ℕ) (r : Result Unit StreamError) → Consumes middle source' bytes
      → ((before read : List ℕ) → IsInputAfter input read (before ++ []) → IsInputAfter new (read ++ bytes) (before ++ page)) → WritesAll writes sink sink' page r → AnswersMore (λ e. ⊥) writes source source' first sink' new r
  bytes_answered writes source' sink' new bytes page (Ok u) consumed takes w = record {
    read = a.read ++ bytes;
    out = a.out ++ page;
    consumed = Consumes-trans source middle source' a.read bytes a.consumed consumed;
    answered = Appends-trans first sink sink' a.out page a.answered w;
    kept = takes a.out a.read (subst (IsInputAfter input a.read) (sym (append-nil a.out)) a.kept);
  }
  bytes_answered writes source' sink' new bytes page (Err (Reading e)) consumed takes w = absurd w
  bytes_answered writes source' sink' new bytes page (Err OutOfMemory) consumed takes w = absurd w
  bytes_answered writes source' sink' new bytes page (Err (Writing e)) consumed takes w =
      let k = takes a.out a.read (subst (IsInputAfter input a.read) (sym (append-nil a.out)) a.kept) in
      let t = k.typed in (
        w.0,
        record {
          read = a.read ++ bytes;
          consumed = Consumes-trans source middle source' a.read bytes a.consumed consumed;
          answered = part_more first sink sink' a.out page (answers_of (without_mark (a.read ++ bytes))) (flat_map line_text (last_line t.current))
              (answers_by_parts (without_mark (a.read ++ bytes)) t.ended t.current t.split ∙ ap (λ xs. xs ++ flat_map line_text (last_line t.current)) (sym t.out_is)) a.answered w.1;
        },
      )

  -- ---- the end of the input

  all_read : (P : List ℕ → Type 0) → IsAtEnd middle → P a.read → IfSome source P
  all_read P end h = Consumes-whole source middle a.read P a.consumed end h

  -- behind a line feed
  pub all_answered : IsAtEnd middle → input.typed.begun ≡ false → IfSome source (λ bytes. Appends first sink (answers_of (without_mark bytes)))
  all_answered end none =
      let t = a.kept.typed in
      all_read (λ bytes. Appends first sink (answers_of (without_mark bytes))) end
      (subst (Appends first sink) (t.out_is ∙ sym (answers_of_none (without_mark a.read) t.ended t.current t.split (sym t.begun ∙ none))) a.answered)

  -- no memory for the answer of the last line
  pub last_left : input.typed.begun ≡ true → LeavesUnanswered source middle first sink
  unfolding ended_before
  last_left some = record {
    more = [];
    before = ended_before middle [] (subst (Consumes source middle) (sym (append-nil a.read)) a.consumed);
    some = some_bytes a.kept.typed.current (sym a.kept.typed.begun ∙ some);
  }

  -- in a line
  pub last_answered : (writes : Error → Type 0) (sink' : Option (List ℕ)) (page : List ℕ) (r : Result Unit StreamError) → IsAtEnd middle → ((before read : List ℕ) → IsInputAfter input read before → before ++ page ≡ answers_of (without_mark read)) → WritesAll writes sink sink' page r → Grades (λ e. ⊥) writes source middle first sink' r
  last_answered writes sink' page (Ok u) end says w =
      all_read (λ bytes. Appends first sink' (answers_of (without_mark bytes))) end
      (subst (Appends first sink') (says a.out a.read a.kept) (Appends-trans first sink sink' a.out page a.answered w))
  last_answered writes sink' page (Err (Reading e)) end says w = absurd w
  last_answered writes sink' page (Err OutOfMemory) end says w = absurd w
  last_answered writes sink' page (Err (Writing e)) end says w = (
    w.0,
    record {
      read = a.read;
      consumed = a.consumed;
      answered = part_more first sink sink' a.out page (answers_of (without_mark a.read)) [] (sym (says a.out a.read a.kept) ∙ sym (append-nil (a.out ++ page))) a.answered w.1;
    },
  )

-- bytes that were read are some
pub some_read : (n : ℕ) (buffer : List ℕ) → n ≤ length buffer → (n ≡ 0 → ⊥) → 0 < length (take n buffer)
some_read n buffer within some = omega (arith, length-take-le n buffer within, some)

-- an error that no source returned may be any
pub any_source : (reads writes : Error → Type 0) (source source' sink sink' : Option (List ℕ)) (e : StreamError) → Fails (λ e. ⊥) writes source source' sink sink' e → Fails reads writes source source' sink sink' e
any_source reads writes source source' sink sink' (Reading e) f = absurd f.0
any_source reads writes source source' sink sink' OutOfMemory f = f
any_source reads writes source source' sink sink' (Writing e) f = f

pub any_source_graded : (reads writes : Error → Type 0) (source source' sink sink' : Option (List ℕ)) (r : Result Unit StreamError) → Grades (λ e. ⊥) writes source source' sink sink' r → Grades reads writes source source' sink sink' r
any_source_graded reads writes source source' sink sink' (Ok u) g = g
any_source_graded reads writes source source' sink sink' (Err e) g = any_source reads writes source source' sink sink' e g

-- nothing was read and answered
pub nothing_yet : (source sink : Option (List ℕ)) (input : Input) → IsInputAfter input [] [] → Answering source source sink sink input
nothing_yet source sink input k = record { read = []; out = []; consumed = Consumes-nil source; answered = Appends-nil sink; kept = k }
