use Rattle.std.proofs.Common.{[]}
use Rattle.hmac_drbg.proofs.parts.mac_of_parts.Goals as goal

pub returns : goal.returns
returns c hash key h =
    let value = c.update.ensures hash key [] h in
    let mark = c.update-2.ensures hash key _ value in
    let first = c.update-3.ensures hash key _ mark in
    let second = c.update-4.ensures hash key _ first in
    c.finish.ensures hash key _ (c.update-5.ensures hash key _ second)
