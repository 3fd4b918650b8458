pub mod QueueReads
