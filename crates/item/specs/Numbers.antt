-- The numbers of refusals, bands and lanes. Every promise that names one goes by these.
use Rattle.std.specs.Prelude.{ℕ, ◌+◌}
use Rattle.item.specs.declared.Band.{Band}
use Rattle.item.specs.declared.Band.TheVariants.{Records, Echo}
use Rattle.item.specs.declared.Way.{Way}
use Rattle.item.specs.declared.Way.TheVariants.{Up, Down}
use Rattle.item.specs.declared.Refusal.{Refusal}
use Rattle.item.specs.declared.Refusal.TheVariants.{NotOpen, NoService, NotEnabled, NoClaim, DoesNotFit, TooFewBytes, BufferTooShort, NoSpace, Nothing, NoMessageBlock, NoDataBlock, OutOfBounds}

abbrev pub band_number : Band → ℕ
band_number Records = 0
band_number Echo = 1

abbrev pub lane_number : Way → ℕ
lane_number Up = 0
lane_number (Down b) = band_number b + 1

abbrev pub number : Refusal → ℕ
-- the stream is not open here (for open: it is)
number NotOpen = 1
-- the level has no service on that lane
number NoService = 2
-- the service is not enabled
number NotEnabled = 3
-- the claim's place is not in use
number NoClaim = 4
-- the pieces, the blocks or the bytes do not fit
number DoesNotFit = 5
-- the message has fewer bytes
number TooFewBytes = 6
-- the buffer is too short
number BufferTooShort = 7
-- there is no space
number NoSpace = 8
-- there is nothing to read, send or take
number Nothing = 9
-- there are too few message blocks
number NoMessageBlock = 10
-- there are too few data blocks
number NoDataBlock = 11
-- a size, the memory or a mark is out of bounds
number OutOfBounds = 12
