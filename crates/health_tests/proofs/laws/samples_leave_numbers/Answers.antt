use Rattle.health_tests.proofs.Reaching.{reached}
use Rattle.health_tests.proofs.Samples.{some_samples}
use Rattle.health_tests.proofs.Telling.{told, tested}
use Rattle.health_tests.proofs.laws.samples_leave_numbers.Goals as goal

pub returns : goal.returns
returns _ = λ c t sound. (λ test. some_samples c t sound (told c t test), λ stands. tested c t (reached c t sound stands))
