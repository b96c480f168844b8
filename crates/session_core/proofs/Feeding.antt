-- What a feed has read, by what it answered.
use Rattle.std.proofs.Common.{◌≡◌, ◌≤◌, ℕ, ◌+◌, ◌∷◌, List, [], ◌++◌, length, take, subst}
use Rattle.frame_codec.specs.declared.decoder.Step.{Step}
use Rattle.frame_codec.specs.declared.decoder.Step.TheVariants.{More, Whole, Bad}
use Rattle.frame_codec.specs.declared.frames.Request.{Request}
use Rattle.frame_codec.specs.Frames.{Asked, IsBadAt}
use Rattle.frame_codec.specs.Decoding.{Begun, Feeds, Reads, ReadsOn}
use Rattle.frame_codec.proofs.Reading.{read-on}

-- a feed of bytes from a decoder that has read `taken`
pub record HasFed (taken : List ℕ) (rs : List Asked) (bytes : List ℕ) (count : ℕ) (old : Begun) (step : Step) (new : Begun) : Type 0 where
  pub reads : Reads taken rs old
  pub within : count ≤ length bytes
  pub offset : new.offset ≡ old.offset + count
  pub feeds : Feeds old bytes count step new

fed : (taken : List ℕ) (rs : List Asked) (bytes : List ℕ) (count : ℕ) (old : Begun) (step answer : Step) (new : Begun) → HasFed taken rs bytes count old step new →
    step ≡ answer → ReadsOn taken rs bytes count answer new
fed taken rs bytes count old step answer new f is =
    subst (λ (x : Step). ReadsOn taken rs bytes count x new) is (read-on taken rs bytes count old step new f.reads f.within f.offset f.feeds)

pub fed-more : (taken : List ℕ) (rs : List Asked) (bytes : List ℕ) (count : ℕ) (old : Begun) (step : Step) (new : Begun) → HasFed taken rs bytes count old step new →
    step ≡ More → Reads (taken ++ bytes) rs new
fed-more taken rs bytes count old step new f is = fed taken rs bytes count old step More new f is

pub fed-all : (taken : List ℕ) (rs : List Asked) (bytes : List ℕ) (count : ℕ) (old : Begun) (step : Step) (new : Begun) → HasFed taken rs bytes count old step new →
    step ≡ More → count ≡ length bytes
fed-all taken rs bytes count old step new f is = (subst (λ (x : Step). Feeds old bytes count x new) is f.feeds).0

pub fed-whole : (taken : List ℕ) (rs : List Asked) (bytes : List ℕ) (count : ℕ) (old : Begun) (step : Step) (new : Begun) (r : Request) → HasFed taken rs bytes count old step new →
    step ≡ Whole r → Reads (taken ++ take count bytes) (rs ++ record { head = r; string = new.string } ∷ []) new × (new.rest ≡ [])
fed-whole taken rs bytes count old step new r f is = fed taken rs bytes count old step (Whole r) new f is

pub fed-bad : (taken : List ℕ) (rs : List Asked) (bytes : List ℕ) (count : ℕ) (old : Begun) (step : Step) (new : Begun) (at why : ℕ) → HasFed taken rs bytes count old step new →
    step ≡ Bad at why → IsBadAt (taken ++ bytes) rs at why
fed-bad taken rs bytes count old step new at why f is = fed taken rs bytes count old step (Bad at why) new f is
