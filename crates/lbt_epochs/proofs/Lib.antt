-- Lists of clusters and of places, and parts of them.
pub mod Filters
pub mod Parts
-- What a cluster asks of the rest.
pub mod LatestRanked
pub mod Demands
pub mod FailAlone
-- What chains, rounds and epochs give.
pub mod ChainForced
pub mod EnoughRoom
pub mod Removed
pub mod RefutedRounds
pub mod RefutedClusters
pub mod RefutedAnswers
pub mod RefutedListings
pub mod ListedParts
pub mod ListedChains
pub mod ListedEpochs
pub mod AnswersThere
-- Places that are linked, and the three orders of them.
pub mod LinksHas
pub mod LinksChain
pub mod LinksRing
pub mod LinksMade
pub mod ListsKept
pub mod TotalOrders
pub mod KeyedPlaces
pub mod SortedPlaces
-- The clusters at places that are left.
pub mod LeftPlaces
pub mod LeftDemands
pub mod LeftAlone
pub mod LeftWithout
-- Chains, rounds and epochs as they go.
pub mod ChainSoFar
pub mod WritesOfPlaces
pub mod CandidateTried
pub mod RoundSoFar
pub mod RoundsSoFar
pub mod EpochsSoFar
pub mod FirstCandidates
pub mod ToldListings
-- The writes of a test.
pub mod WritesInTurn
