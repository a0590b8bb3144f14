-- What is written behind a line that was written before it.
use Rattle.std.proofs.Common.{◌≡◌, ℕ, ◌+◌, List, ◌++◌, length, take, Option, Some, None, Result, Ok, Err, IsErrAnd, sym, refl, subst, arith, length-append}
use Rattle.std.proofs.KnownBytes.{Appends-trans, Appends-kept}
use Rattle.std.proofs.lemmas.List.{take-append-le}
use Rattle.std.proofs.Math.Seq.{take-append-add}
use Rattle.std.specs.Io.KnownBytes.{Appends}
use Rattle.std.specs.declared.io.Error.{Error}
use Rattle.byte_streams.specs.declared.error.StreamError.{StreamError}
use Rattle.byte_streams.specs.declared.error.StreamError.TheVariants.{Reading, OutOfMemory, Writing}
use Rattle.byte_streams.specs.Streams.{AppendsPart, WritesAll, Streams}
use Rattle.sheet.specs.Reading.{longest}
use Rattle.terminal.specs.Printed.{PrintedOf}
use Rattle.worked.specs.Named.{name_line, of_line, of_output, NamedStreams}

-- a part of some bytes is a part of more
part_of_more : (a b : Option (List ℕ)) (xs ys : List ℕ) → AppendsPart a b xs → AppendsPart a b (xs ++ ys)
part_of_more a b xs ys part = record {
  written = part.written;
  fewer = omega (arith, part.fewer, length-append xs ys);
  appended = subst (Appends a b) (sym (take-append-le part.written xs ys (omega (arith, part.fewer)))) part.appended;
}

-- a part behind bytes that were all written
part_behind : (a b c : Option (List ℕ)) (xs ys : List ℕ) → Appends a b xs → AppendsPart b c ys → AppendsPart a c (xs ++ ys)
part_behind a b c xs ys before part = record {
  written = length xs + part.written;
  fewer = omega (arith, part.fewer, length-append xs ys);
  appended = subst (Appends a c) (sym (take-append-add xs ys part.written)) (Appends-trans a b c xs (take part.written ys) before part.appended);
}

module _ (writes : Error → Type 0) where
  -- writing that failed, and bytes behind it that were not written
  writes_part : (a b : Option (List ℕ)) (xs ys : List ℕ) (e : StreamError) → WritesAll writes a b xs (Err e) → WritesAll writes a b (xs ++ ys) (Err e)
  writes_part a b xs ys (Reading e) done = absurd done
  writes_part a b xs ys OutOfMemory done = absurd done
  writes_part a b xs ys (Writing e) done = (done.0, part_of_more a b xs ys done.1)

  pub writes_first : (a b : Option (List ℕ)) (xs ys : List ℕ) (e : StreamError) (r : Result Unit StreamError) → IsErrAnd r (λ x. x ≡ e) → WritesAll writes a b xs (Err e) → WritesAll writes a b (xs ++ ys) r
  writes_first a b xs ys e (Ok u) is done = absurd is
  writes_first a b xs ys e (Err x) is done = subst (λ z. WritesAll writes a b (xs ++ ys) (Err z)) (sym is) (writes_part a b xs ys e done)

  -- writing behind bytes that were all written
  pub writes_then : (a b c : Option (List ℕ)) (xs ys : List ℕ) (r : Result Unit StreamError) → Appends a b xs → WritesAll writes b c ys r → WritesAll writes a c (xs ++ ys) r
  writes_then a b c xs ys (Ok u) before done = Appends-trans a b c xs ys before done
  writes_then a b c xs ys (Err (Reading e)) before done = absurd done
  writes_then a b c xs ys (Err OutOfMemory) before done = absurd done
  writes_then a b c xs ys (Err (Writing e)) before done = (done.0, part_behind a b c xs ys before done.1)

  -- where the line of the name was not written
  line_part : (name : List ℕ) (reads : Error → Type 0) (known a b : Option (List ℕ)) (e : StreamError) → WritesAll writes a b (name_line name) (Err e) → NamedStreams name reads writes known a b (Err e)
  line_part name reads known a b (Reading e) done = absurd done
  line_part name reads known a b OutOfMemory done = absurd done
  line_part name reads known a b (Writing e) done = (done.0, of_line done.1)

  pub line_wanting : (name : List ℕ) (reads : Error → Type 0) (known a b : Option (List ℕ)) (e : StreamError) (r : Result Unit StreamError) → IsErrAnd r (λ x. x ≡ e) → WritesAll writes a b (name_line name) (Err e) → NamedStreams name reads writes known a b r
  line_wanting name reads known a b e (Ok u) is done = absurd is
  line_wanting name reads known a b e (Err x) is done = subst (λ z. NamedStreams name reads writes known a b (Err z)) (sym is) (line_part name reads known a b e done)

  -- where it was, and the sheet was settled behind it
  pub named : (name : List ℕ) (reads : Error → Type 0) (known a b c : Option (List ℕ)) → Appends a b (name_line name) → (r : Result Unit StreamError) → Streams PrintedOf longest reads writes known b c r → NamedStreams name reads writes known a c r
  named name reads None a b c line (Ok u) done = tt
  named name reads (Some bytes) a b c line (Ok u) done = record {
    output = name_line name ++ done.output;
    is_output = record { text = done.output; printed_of = done.is_output; named = refl };
    appended = Appends-trans a b c (name_line name) done.output line done.appended;
  }
  named name reads known a b c line (Err (Reading e)) done = (done.0, Appends-kept a b c (name_line name) line done.1)
  named name reads known a b c line (Err OutOfMemory) done = (done.0, Appends-kept a b c (name_line name) line done.1)
  named name reads None a b c line (Err (Writing e)) done = (done.0, of_output tt)
  named name reads (Some bytes) a b c line (Err (Writing e)) done = (
    done.0,
    of_output record {
      output = name_line name ++ done.1.output;
      is_output = record { text = done.1.output; printed_of = done.1.is_output; named = refl };
      appended = part_behind a b c (name_line name) done.1.output line done.1.appended;
    },
  )
