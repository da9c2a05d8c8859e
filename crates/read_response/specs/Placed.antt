-- The parts of a basic response by the places and sizes that were read: what the code puts together.
-- front_at, the parts of the signed part; parts_at, with those that follow it; tailed, by what follows it.
-- The same parts by their forms are in Parts.
-- Assumes nothing.
use Rattle.std.specs.Prelude.{ℕ, ◌+◌, ◌-◌, Result, Ok, Err}
use Rattle.element.specs.Places.{misfit, span}
use Rattle.element.specs.declared.Misfit.{Misfit}
use Rattle.read_basic.specs.Views.{TailRead}
use Rattle.read_response.specs.declared.Parts.{Parts}
use Rattle.read_response.specs.declared.basics.Front.{Front}

-- a signed part at a place, whose responder id is at b and takes r, and which ends at e: the k entries are at f after b and take m
abbrev pub front_at : (at b e r f m k : ℕ) → Front
front_at at b e r f m k = record {
  signed = span at e;
  responder = span (at + b) r;
  entries = span (at + b + f) m;
  count = k;
  extensions = span (at + b + f + m) (at + e - (at + b + f + m));
}

-- where the signed part ends
abbrev pub after_signed : Front → ℕ
after_signed x = x.signed.start + x.signed.len

-- the algorithm takes a, and the signature is at g after the signed part and takes h; the response ends at n
abbrev pub parts_at : (x : Front) (a g h n : ℕ) → Parts
parts_at x a g h n = record {
  signed = x.signed;
  responder = x.responder;
  entries = x.entries;
  count = x.count;
  extensions = x.extensions;
  algorithm = span (after_signed x) a;
  signature = span (after_signed x + g) h;
  certificates = span (after_signed x + g + h) (n - (after_signed x + g + h));
}

-- by what follows the signed part, in a content of n octets
unfoldable pub tailed : Front → ℕ → TailRead → Result Parts Misfit
tailed x n (Ok t) = Ok (parts_at x t.algorithm t.start t.len (x.signed.start + n))
tailed x n (Err p) = Err (misfit (after_signed x + p.place))
