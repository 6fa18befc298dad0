pub mod SourceReplies
