-- What follows from the laws of a suite.
use Rattle.std.proofs.Common.{◌≡◌, ◌+◌, ◌<◌, length, Ok, Err, Result, refl, arith}
use Rattle.octets.specs.Octets.{Octets}
use Rattle.suite.specs.Meaning.{Meaning, longest_piece, length_or_fault}
use Rattle.suite.specs.Laws.{Opens, Keeps, OnePiece, LongRefused}
use Rattle.suite.specs.declared.sizes.Sizes.{Sizes}
use Rattle.suite.specs.declared.faults.OpenFault.{OpenFault}
use Rattle.suite.specs.declared.faults.OpenFault.TheVariants.{Long, Unequal}

pub one_piece : (M : Meaning) → Keeps M → OnePiece M
one_piece M keeps key header body piece other id counter opened first seals second seals' =
    let p = keeps.opens_sealed key header body piece id counter opened first seals in
    let q = keeps.opens_sealed key header body other id counter opened second seals' in
    cc

-- of a body that is too long only one answer fits
only_long : (z : Sizes) (body : Octets) (opened : Result Octets OpenFault) → Opens z body (length_or_fault opened) → z.head + longest_piece + z.tail < length body → opened ≡ Err Long
only_long z body (Ok piece) says over = absurd (omega (arith, says.0, says.2))
only_long z body (Err Long) says over = refl
only_long z body (Err Unequal) says over = absurd (omega arith)

pub long_refused : (M : Meaning) → Keeps M → LongRefused M
long_refused M keeps key header body id counter opened over =
    only_long M.sizes body (M.opens key header body) (keeps.open_says key header body id counter opened) over
