pub mod LongestHandling
