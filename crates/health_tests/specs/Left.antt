-- Which numbers some list of samples without an alarm leaves, as a test on the numbers alone.
-- SP 800-90B 4.4; this project's own.
use Rattle.std.specs.Prelude.{ℕ, ◌+◌, ◌-◌, ◌*◌, ◌==◌, ◌&&◌, ◌||◌, Bool, if◌then◌else◌, nat_le, nat_lt}
use Rattle.health_tests.specs.declared.numbers.Tail.{Tail}
use Rattle.health_tests.specs.Cutoffs.{Limits}

-- the numbers of no sample
abbrev pub is_blank : Tail → Bool
is_blank t = t.run == 0 && t.place == 0 && t.equal == 0 && t.last == 0 && t.first == 0

-- how many samples the window of the last sample has, where the next sample's place in its window is p
abbrev pub filled : ℕ → ℕ → ℕ
filled window p = if p == 0 then window else p

-- n like ones can stand among so many samples, the first of which is one, where no run of them reaches the cutoff: at least one
-- unlike them stands in each row of as many as the cutoff says
abbrev pub can_spread : ℕ → ℕ → ℕ → Bool
can_spread rct many n = nat_le 1 n && nat_le n many && nat_lt many ((many - n) * rct + rct)

-- run, count, last and first fit a window with m samples so far
abbrev pub fits_window : ℕ → ℕ → ℕ → Tail → Bool
fits_window rct window m t =
    if nat_le m t.run then t.last == t.first && t.equal == m && nat_lt t.run (m + window)
    else if t.last == t.first then can_spread rct (m - 1 - t.run) (t.equal - t.run)
    else can_spread rct (m - t.run) t.equal

-- numbers of one sample or more
abbrev pub is_begun : Limits → Tail → Bool
is_begun c t =
    nat_le 1 t.run && nat_lt t.run c.rct && nat_lt t.place c.window && nat_lt t.equal c.apt
    && fits_window c.rct c.window (filled c.window t.place) t

abbrev pub is_left : Limits → Tail → Bool
is_left c t = is_blank t || is_begun c t
