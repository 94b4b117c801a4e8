-- The code's kinds, by the rules' numbers.
use Rattle.std.specs.Prelude.{ℕ}
use Rattle.listing.specs.Kinds.{PLAIN, READ, WRITE, RMW, FENCE, ACQUIRE, RELEASE, LOAD_FENCE, STORE_FENCE, ACQUIRE_PC}
use Rattle.listing.specs.declared.kind.Kind.{Kind}
use Rattle.listing.specs.declared.kind.Kind.TheVariants.{Plain, Read, Write, Rmw, Fence, Acquire, Release, LoadFence, StoreFence, AcquirePc, Other}

-- a kind's number; of one that has none, the byte that stands for it
abbrev pub number_of : Kind → ℕ
number_of Plain = PLAIN
number_of Read = READ
number_of Write = WRITE
number_of Rmw = RMW
number_of Fence = FENCE
number_of Acquire = ACQUIRE
number_of Release = RELEASE
number_of LoadFence = LOAD_FENCE
number_of StoreFence = STORE_FENCE
number_of AcquirePc = ACQUIRE_PC
number_of (Other other) = other.byte
