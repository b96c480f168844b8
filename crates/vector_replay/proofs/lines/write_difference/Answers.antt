use Rattle.std.proofs.Common.{List, ℕ, [], ◌++◌, codes, append-nil, subst, sym}
use Rattle.std.specs.Io.KnownBytes.{Appends}
use Rattle.rbg_bytes.specs.Streams.{AppendsFront, TakesAll}
use Rattle.rbg_bytes.proofs.Fronts.{front_after, front_within}
use Rattle.vector_replay.specs.Report.{bytes_line, differs_line}
use Rattle.vector_text.proofs.Writing.{takes_after}
use Rattle.vector_replay.proofs.lines.write_difference.Goals as goal

pub returns-in-Err-clause-bytes : goal.returns-in-Err-clause-bytes
returns-in-Err-clause-bytes g c =
    let want = bytes_line (codes "want ") c.args.case.now.returned in
    let got = bytes_line (codes "got ") c.args.got.now in
    front_within _ _ (differs_line c.args.case.now) (want ++ (got ++ [])) c.in-Err.ensures.bytes

pub returns-in-Err-write_bytes-clause-bytes : goal.returns-in-Err-write_bytes-clause-bytes
returns-in-Err-write_bytes-clause-bytes g c =
    let want = bytes_line (codes "want ") c.args.case.now.returned in
    let got = bytes_line (codes "got ") c.args.got.now in
    let middle = g.O.ByteSink.out c.write_place.new.output in
    let wrote = subst (λ (bytes : List ℕ). AppendsFront middle (g.O.ByteSink.out c.write_bytes.new.output) (bytes_line (codes "want ") bytes)) c.as_slice.ensures.bytes
    c.in-Err-write_bytes.ensures.bytes in
    front_after _ middle _ (differs_line c.args.case.now) (want ++ (got ++ [])) c.in-Ok.ensures.bytes (front_within middle _ want (got ++ []) wrote)

pub returns-clause-bytes : goal.returns-clause-bytes
returns-clause-bytes g c =
    let want = bytes_line (codes "want ") c.args.case.now.returned in
    let got = bytes_line (codes "got ") c.args.got.now in
    let middle = g.O.ByteSink.out c.write_place.new.output in
    let behind = g.O.ByteSink.out c.write_bytes.new.output in
    let last = g.O.ByteSink.out c.write_bytes-2.new.output in
    let result = c.write_bytes-2.result in
    let wrote = subst (λ (bytes : List ℕ). Appends middle behind (bytes_line (codes "want ") bytes)) c.as_slice.ensures.bytes c.in-Ok-write_bytes.ensures.bytes in
    let took = subst (λ (bytes : List ℕ). TakesAll behind last result (bytes_line (codes "got ") bytes)) c.as_slice-2.ensures.bytes c.write_bytes-2.ensures.bytes in
    let took' = subst (λ (bytes : List ℕ). TakesAll behind last result bytes) (sym (append-nil got)) took in
    takes_after _ middle last result (differs_line c.args.case.now) (want ++ (got ++ [])) c.in-Ok.ensures.bytes
    (takes_after middle behind last result want (got ++ []) wrote took')
