-- The size of a cell, as a value of its own: a reader has it for good, and it may cross threads.
-- Assumes `Logic`.
use denote.RattleType.{RattleType}
use denote.RawPtr.{RawPtr}
use denote.Param.Shared.{copy_shared}
use denote.Param.Send.{IsSend, IsSync, AllSend, owning_send, struct_send, struct_sync, sendable}
use denote.SharingLaws.{said_shr_laws}
use denote.Struct.Struct.{exits_of}
use denote.Struct.Owning.{shape, fields, to}
use denote.Struct.Laws.{field_copy}
use denote.Struct.Lending.{Law, of_Lends, Lends-said}
use Rattle.core.specs.contracts.marker.PhantomData as marker
use Rattle.std_alloc.proofs.SendSync.{quiet}
use Rattle.bg_openlist.specs.Places.{stride_owns}
use Rattle.bg_openlist.specs.contracts.pointers.Stride as Stride

module _ (R : RattleType) where
  -- it owns a plain equation, which stays true
  pub is_lent : Law (Stride.the_row R)
  is_lent =
      of_Lends (Stride.struct R) (Stride.the_codes R.Denot R.coded (marker.the_row RawPtr).coded) (Stride.the_heap R) (Stride.the_lent R)
      (λ d p. said_shr_laws (stride_owns R d.bytes) tt)
      (copy_shared (marker.the_field RawPtr) (field_copy (marker.the_type RawPtr) tt), tt)
      (λ M 𝓤 𝓛 d p. Lends-said 𝓛 (stride_owns R d.bytes) tt (Stride.the_row R).lives)

  mark_crosses : AllSend (fields (Stride.the_type R))
  mark_crosses = (search sendable, tt)

  pub crosses : IsSend (Stride.the_row R)
  crosses =
      let O = Stride.the_type R in
      owning_send O mark_crosses (λ d. tt) (λ k. quiet (to O) (exits_of k (fields O)) ((struct_send (shape O) mark_crosses).leaving k))

  pub is_shared : IsSync (Stride.the_row R)
  is_shared = let O = Stride.the_type R in record { shared = λ d b o κ. ((struct_sync (shape O) (search sendable, tt)).shared (to O d) b o κ, tt) }
