-- The reading of a response: every field of document 01's layout, serials as whole numbers, times as
-- seconds since 1970, a reason as a number, free elements as trees, OIDs and strings as octets, each
-- optional part as absent or present; and, by document 02's C-12, whether the version is written. Lengths
-- are no part of it.
-- Algorithm, CertId, Status, Extension, Entry, Responder, Signed, with_version, Basic, Reading.
-- Assumes nothing.
use Rattle.std.specs.Prelude.{ℕ, Bool, List}
use Rattle.std.proofs.Math.Option.{Option}
use Rattle.codec.specs.Tree.{Tree}

-- an algorithm identifier: an OID and at most one free element
pub record Algorithm : Type 0 where
  pub oid : List ℕ
  pub parameters : Option Tree

-- which certificate an entry is about
pub record CertId : Type 0 where
  pub algorithm : Algorithm
  pub name_hash : List ℕ
  pub key_hash : List ℕ
  pub serial : ℕ

-- good; revoked at a time and maybe for a reason; or unknown
pub data Status : Type 0 where
  good : Status
  revoked : ℕ → Option ℕ → Status
  unknown : Status

pub record Extension : Type 0 where
  pub oid : List ℕ
  pub critical : Bool
  pub value : List ℕ

pub record Entry : Type 0 where
  pub cert : CertId
  pub status : Status
  pub this_update : ℕ
  pub next_update : Option ℕ
  pub extensions : Option (List Extension)

-- who signed: by a Name, or by the hash of a key
pub data Responder : Type 0 where
  by_name : Tree → Responder
  by_key : List ℕ → Responder

-- the signed part; its version is always 0, and written or not
pub record Signed : Type 0 where
  pub versioned : Bool
  pub responder : Responder
  pub produced_at : ℕ
  pub entries : List Entry
  pub extensions : Option (List Extension)

-- the same signed part with its version written, or not
abbrev pub with_version : Bool → Signed → Signed
with_version v d =
    record { versioned = v; responder = d.responder; produced_at = d.produced_at; entries = d.entries; extensions = d.extensions }

-- a basic response; the signature is without its leading 00
pub record Basic : Type 0 where
  pub signed : Signed
  pub algorithm : Algorithm
  pub signature : List ℕ
  pub certificates : Option (List Tree)

-- an error response reads as its status
pub data Reading : Type 0 where
  failed : ℕ → Reading
  basic : Basic → Reading
