-- The bytes that are printed of a sheet that is too long.
use Rattle.std.proofs.Common.{◌≡◌, codes, refl}
use Rattle.std.specs.Fmt.{digits}
use Rattle.lines.specs.Lines.{with_feed, too_long_line}

pub its_bytes : with_feed (codes "X 0 22 0 sheet") ≡ too_long_line
unfolding digits
its_bytes = refl
