-- The functions that the promises speak of: each meets its contract, and its contract tells what it returns.
-- Tells; check, judge, refuse, signed_part and signature, and of the cache file, find and ask, each with _met and _tells. The writers, the slip reader, the
-- walk and the program's line are in Writers, the functions for C in CFunctions.
-- _met: of every model of the program logic, a call of the function is safe, ends, and leaves what its contract says;
-- _tells: what that is, of the arguments `a` in their order, `a.0`, `a.1.0`, `a.1.1.0`, and the parameters at exit `e`.
-- The like of every public function is proved in its own crate; that all are settled is in Settled and the files after it.
-- Assumes nothing.
use Rattle.std.specs.Prelude.{◌≡◌}
use Rattle.read_response.specs.Parts.{judged_of}
use Rattle.read_response.specs.Refusals.{refusal_of}
use Rattle.show.specs.Shown.{signed_of, signature_of}
use Rattle.rules.specs.Ruling.{answer_of}
use Rattle.cache_rules.specs.Cache.{filed_of, buffer_of, ask_of}
use Rattle.cache_ask.specs.Found.{ask_found}
use Rattle.rule_check.proofs.check.Reads as check
use Rattle.rule_check.proofs.check.Statement as check_contract
use Rattle.rule_check.proofs.check.Met as check_theorem
use Rattle.read_response.proofs.judge.Reads as judge
use Rattle.read_response.proofs.judge.Statement as judge_contract
use Rattle.read_response.proofs.judge.Met as judge_theorem
use Rattle.read_response.proofs.refuse.Reads as refuse
use Rattle.read_response.proofs.refuse.Statement as refuse_contract
use Rattle.read_response.proofs.refuse.Met as refuse_theorem
use Rattle.show.proofs.signed_part.Reads as signed_part
use Rattle.show.proofs.signed_part.Statement as signed_part_contract
use Rattle.show.proofs.signed_part.Met as signed_part_theorem
use Rattle.show.proofs.signature.Reads as signature
use Rattle.show.proofs.signature.Statement as signature_contract
use Rattle.show.proofs.signature.Met as signature_theorem
use Rattle.cache_file.proofs.file.Reads as file
use Rattle.cache_file.proofs.file.Statement as file_contract
use Rattle.cache_file.proofs.file.Met as file_theorem
use Rattle.cache_ask.proofs.find.Reads as find
use Rattle.cache_ask.proofs.find.Statement as find_contract
use Rattle.cache_ask.proofs.find.Met as find_theorem
use Rattle.cache_ask.proofs.ask.Reads as ask
use Rattle.cache_ask.proofs.ask.Statement as ask_contract
use Rattle.cache_ask.proofs.ask.Met as ask_theorem

-- what a contract tells after every call: a claim of the lifetimes, the arguments, the result and the parameters at exit
abbrev pub Tells : {K : Type 0} {A Z E : K → Type 0} → ((k : K) → A k → Z k → E k → Type 0) → ((k : K) → A k → Z k → E k → Type 0) → Type 0
Tells {K} {A} {Z} {E} Learnt Claim = (k : K) (a : A k) (z : Z k) (e : E k) → Learnt k a z e → Claim k a z e

-- ── rule_check::check(question, name, response): the answer ──
pub check_met : {M : Type 1} → check_contract.statement M
check_met = check_theorem.met

pub check_tells : Tells check.Learnt (λ k a z e. z ≡ answer_of a.0 a.1.0.now a.1.1.0.now)
check_tells k a z e p = p

-- ── read_response::judge(response): what it is, and where its parts are ──
pub judge_met : {M : Type 1} → judge_contract.statement M
judge_met = judge_theorem.met

pub judge_tells : Tells judge.Learnt (λ k a z e. z ≡ judged_of a.0.now)
judge_tells k a z e p = p

-- ── read_response::refuse(response): the refusal from 2 to 5, or 0 ──
pub refuse_met : {M : Type 1} → refuse_contract.statement M
refuse_met = refuse_theorem.met

pub refuse_tells : Tells refuse.Learnt (λ k a z e. z ≡ refusal_of (judged_of a.0.now))
refuse_tells k a z e p = p

-- ── show::signed_part(response) and show::signature(response): the caller's own octets ──
pub signed_part_met : {M : Type 1} → signed_part_contract.statement M
signed_part_met = signed_part_theorem.met

pub signed_part_tells : Tells signed_part.Learnt (λ k a z e. z.now ≡ signed_of a.0.now)
signed_part_tells k a z e p = p

pub signature_met : {M : Type 1} → signature_contract.statement M
signature_met = signature_theorem.met

pub signature_tells : Tells signature.Learnt (λ k a z e. z.now ≡ signature_of a.0.now)
signature_tells k a z e p = p

-- ── cache_file::file(cache, slip, clock): how many places are then filled, or the refusal, and the cache ──
pub file_met : {M : Type 1} → file_contract.statement M
file_met = file_theorem.met

pub file_tells : Tells file.Learnt (λ k a z e.
    (z ≡ filed_of a.1.1.0 a.0.now a.1.0.now) × (e.0.now ≡ buffer_of a.1.1.0 a.0.now a.1.0.now))
file_tells k a z e p = (p.0, p.1)

-- ── cache_ask::find(cache, card, clock): the place whose slip counts, that none has the card, or the refusal ──
pub find_met : {M : Type 1} → find_contract.statement M
find_met = find_theorem.met

pub find_tells : Tells find.Learnt (λ k a z e. z ≡ ask_found a.1.1.0 a.1.0.now a.0.now)
find_tells k a z e p = p

-- ── cache_ask::ask(cache, card, clock): what is told of the card ──
pub ask_met : {M : Type 1} → ask_contract.statement M
ask_met = ask_theorem.met

pub ask_tells : Tells ask.Learnt (λ k a z e. z ≡ ask_of a.1.1.0 a.1.0 a.0.now)
ask_tells k a z e p = p
