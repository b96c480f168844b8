use Rattle.std.proofs.Common.{[], ◌∷◌, inl, refl, lit<, lit≤}
use Rattle.frame_codec.specs.declared.frames.Request.{Request}
use Rattle.frame_codec.proofs.Requests.{request-framed, request-head}
use Rattle.frame_codec.proofs.tests.generate.Goals as goal

abbrev asked : Request
asked = record { op = 2; flags = 1; node = 4; id = 2; count = 65537; strength = 128; len = 1 }

pub returns : goal.returns
returns c =
    request-framed asked (99 ∷ [])
    (request-head asked (lit≤ tt) (lit≤ tt) (inl (lit≤ tt, lit≤ tt)) (lit< tt) (lit< tt) (inl (lit≤ tt, lit≤ tt)) (inl (lit≤ tt, lit≤ tt)) (inl (lit≤ tt, lit≤ tt))) refl
