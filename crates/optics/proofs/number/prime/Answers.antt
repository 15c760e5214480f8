-- The prime that the setting names.
use Rattle.checks.proofs.RoomLaws as room-laws
use Rattle.optics.proofs.number.prime.Goals as goal

pub returns : goal.returns
returns c =
    let e = c.prime.ensures in
    (rw e (room-laws.prime _), rw e (room-laws.prime_high _))
