-- The limits of messages that are passed on as they come.
use Rattle.std.specs.Prelude.{◌≡◌, ℕ, Option, unwrap_or}
use Rattle.bg_both_sides.specs.declared.stream_limits.StreamLimits.{StreamLimits}
use Rattle.bg_event_loop.specs.declared.settings.UploadSettings.{UploadSettings}

-- 64 KiB of a body wait for a client, and it has at most so many bytes, any number of 64 bits if it is not said
pub record AreStreamLimits (most : Option ℕ) (limits : StreamLimits) : Type 0 where
  pub window_is : limits.window ≡ 65536
  pub most_is : limits.most_body ≡ unwrap_or most 18446744073709551615

-- so many bytes of a request are held, 64 KiB if it is not said, and its body and that of its response have at most so many bytes, any
-- number of 64 bits if it is not said; 64 KiB of a body wait for the endpoint, or for the client
pub record AreUploadLimits (buffer most most_response : Option ℕ) (limits : UploadSettings) : Type 0 where
  pub held_is : limits.most_held ≡ unwrap_or buffer 65536
  pub most_is : limits.most_body ≡ unwrap_or most 18446744073709551615
  pub window_is : limits.window ≡ 65536
  pub response_is : limits.most_response ≡ unwrap_or most_response 18446744073709551615
